use Rattle.std.proofs.Common.{◌≤◌}
use Rattle.flow_accounts.specs.Balances.{account_count}
use Rattle.flow_accounts.specs.Parts.{AreHoldingsOf}
use Rattle.flow_accounts.proofs.restore.holdings_of.Given as goal

abbrev pub invariant-loop-place : goal.invariant-loop-place
invariant-loop-place g l = record {
  read : AreHoldingsOf (g.P.AccountParts.balances l.parts) l.place l.holdings;
  room : account_count (g.P.AccountParts.balances l.parts) ≤ l.holdings.room;
}
