-- What contracts see of commands that the program owns and of views of borrowed bytes.
use Rattle.std.specs.Prelude.{Result, Ok, Err, None, Some}
use Rattle.wire_records.specs.Commands.{Command, AddAsset, OpenAccount, Deposit, Withdraw, Place, CancelOrder, RunBatch, SetCredit}
use Rattle.wire_records.specs.declared.command.Command as owned
use Rattle.wire_records.specs.declared.command.Command.TheVariants as own
use Rattle.wire_records.specs.declared.command.CommandView.{CommandView}
use Rattle.wire_records.specs.declared.command.CommandView.TheVariants as view
use Rattle.wire_records.specs.declared.command.BodyFault.{BodyFault}

-- the command that an owned value is
abbrev pub command_in : owned.Command → Command
command_in (own.AddAsset ticker) = AddAsset ticker
command_in own.OpenAccount = OpenAccount
command_in (own.DepositMoney account ticks) = Deposit account None ticks
command_in (own.DepositAsset account asset units) = Deposit account (Some asset) units
command_in (own.WithdrawMoney account ticks) = Withdraw account None ticks
command_in (own.WithdrawAsset account asset units) = Withdraw account (Some asset) units
command_in (own.PlaceOrder account low high rate cap row) = Place None (record { account = account; low = low; high = high; rate = rate; cap = cap; row = row })
command_in (own.CancelOrder account order) = CancelOrder account order
command_in (own.RunBatch budget) = RunBatch budget
command_in (own.PlaceUntil last account low high rate cap row) = Place (Some last) (record { account = account; low = low; high = high; rate = rate; cap = cap; row = row })
command_in (own.SetMoneyCredit account ticks) = SetCredit account None ticks
command_in (own.SetUnitCredit account asset units) = SetCredit account (Some asset) units

-- the command that a view shows
abbrev pub command_of : CommandView → Command
command_of (view.AddAsset ticker) = AddAsset ticker.now
command_of view.OpenAccount = OpenAccount
command_of (view.DepositMoney account ticks) = Deposit account None ticks
command_of (view.DepositAsset account asset units) = Deposit account (Some asset) units
command_of (view.WithdrawMoney account ticks) = Withdraw account None ticks
command_of (view.WithdrawAsset account asset units) = Withdraw account (Some asset) units
command_of (view.PlaceOrder place) = Place None place
command_of (view.CancelOrder account order) = CancelOrder account order
command_of (view.RunBatch budget) = RunBatch budget
command_of (view.PlaceUntil last place) = Place (Some last) place
command_of (view.SetMoneyCredit account ticks) = SetCredit account None ticks
command_of (view.SetUnitCredit account asset units) = SetCredit account (Some asset) units

-- what a record was read as, with the command in place of its view
abbrev pub reading : Result CommandView BodyFault → Result Command BodyFault
reading (Ok seen) = Ok (command_of seen)
reading (Err why) = Err why
