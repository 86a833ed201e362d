use Rattle.market_parts.proofs.Summing.{IsMoneyOfFirst}
use Rattle.market_parts.proofs.sums.money_sum.Given as goal

abbrev pub invariant-loop-place : goal.invariant-loop-place
invariant-loop-place g l = IsMoneyOfFirst (g.P.AccountParts.balances l.parts) l.place l.sum
