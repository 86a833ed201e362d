use Rattle.std.proofs.Common.{◌≡◌, ◌-◌}
use Rattle.flow_accounts.specs.Balances.{credit_of}
use Rattle.flow_accounts.specs.NoCredit.{no_line}
use Rattle.flow_accounts.proofs.Filling.{filling}
use Rattle.flow_accounts.proofs.restore.read_unit_credits.Given as goal

abbrev pub invariant-loop-asset : goal.invariant-loop-asset
invariant-loop-asset g l =
    l.lines ≡ record (l.initial.lines) { lines = filling 0 (no_line l.initial.lines.assets) l.initial.lines.lines (l.account - 1) (credit_of (g.P.AccountParts.balances l.parts) l.account).units l.initial.lines.assets l.asset }
