use Rattle.market_parts.proofs.Summing.{AreUnitsOfFirst}
use Rattle.market_parts.proofs.sums.unit_sum.Given as goal

abbrev pub invariant-loop-place : goal.invariant-loop-place
invariant-loop-place g l = AreUnitsOfFirst (g.P.AccountParts.balances l.parts) l.asset l.place l.sum
