use Rattle.std.proofs.Common.{[], None}
use Rattle.std.specs.Prelude.{codes}
use Rattle.serde_json.specs.View.{view}
use Rattle.wire_records.specs.Commands.{AddAsset, OpenAccount, Deposit, Withdraw, CancelOrder, RunBatch}
use Rattle.order_text.proofs.Ladders.{no_command_word}
use Rattle.order_text.proofs.ByWord.{found_asked}
use Rattle.order_text.proofs.asking.asked_with.Goals as goal

pub returns-in-Asset : goal.returns-in-Asset
returns-in-Asset c =
    rw c.found.ensures (found_asked c.args.tickers.now (view c.args.value.now) c.args.version (codes "asset") c.add_asset.result (rw c.in-Asset.is at c.requires) (no_command_word c.args.tickers.now (view c.args.value.now) (AddAsset [])) (c.add_asset.ensures c.args.tickers.now))

pub returns-in-Account : goal.returns-in-Account
returns-in-Account c =
    rw c.found-in-Account.ensures (found_asked c.args.tickers.now (view c.args.value.now) c.args.version (codes "account") c.open_account.result (rw c.in-Account.is at c.requires) (no_command_word c.args.tickers.now (view c.args.value.now) OpenAccount) (c.open_account.ensures c.args.tickers.now))

pub returns-in-Deposit : goal.returns-in-Deposit
returns-in-Deposit c =
    rw c.found-in-Deposit.ensures (found_asked c.args.tickers.now (view c.args.value.now) c.args.version (codes "deposit") c.deposit.result (rw c.in-Deposit.is at c.requires) (no_command_word c.args.tickers.now (view c.args.value.now) (Deposit 0 None 0)) c.deposit.ensures)

pub returns-in-Withdraw : goal.returns-in-Withdraw
returns-in-Withdraw c =
    rw c.found-in-Withdraw.ensures (found_asked c.args.tickers.now (view c.args.value.now) c.args.version (codes "withdraw") c.withdraw.result (rw c.in-Withdraw.is at c.requires) (no_command_word c.args.tickers.now (view c.args.value.now) (Withdraw 0 None 0)) c.withdraw.ensures)

pub returns-in-Cancel : goal.returns-in-Cancel
returns-in-Cancel c =
    rw c.found-in-Cancel.ensures (found_asked c.args.tickers.now (view c.args.value.now) c.args.version (codes "cancel") c.cancel.result (rw c.in-Cancel.is at c.requires) (no_command_word c.args.tickers.now (view c.args.value.now) (CancelOrder 0 0)) (c.cancel.ensures c.args.tickers.now))

pub returns-in-Batch : goal.returns-in-Batch
returns-in-Batch c =
    rw c.found-in-Batch.ensures (found_asked c.args.tickers.now (view c.args.value.now) c.args.version (codes "batch") c.run_batch.result (rw c.in-Batch.is at c.requires) (no_command_word c.args.tickers.now (view c.args.value.now) (RunBatch 0)) (c.run_batch.ensures c.args.tickers.now))

pub returns-in-Ladder : goal.returns-in-Ladder
returns-in-Ladder c = c.ladder_in.ensures c.args.version
