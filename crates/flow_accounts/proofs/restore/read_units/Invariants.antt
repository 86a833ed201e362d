use Rattle.std.proofs.Common.{◌≡◌, ◌-◌, pos}
use Rattle.flow_accounts.specs.Balances.{account_of}
use Rattle.flow_accounts.specs.NoCredit.{no_holding}
use Rattle.flow_accounts.proofs.Filling.{filling}
use Rattle.flow_accounts.proofs.restore.read_units.Given as goal

abbrev pub invariant-loop-asset : goal.invariant-loop-asset
invariant-loop-asset g l =
    l.holdings ≡ record (l.initial.holdings) { lines = filling (pos 0) no_holding l.initial.holdings.lines (l.account - 1) (account_of (g.P.AccountParts.balances l.parts) l.account).units l.initial.holdings.assets l.asset }
