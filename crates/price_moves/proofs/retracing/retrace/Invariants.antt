use Rattle.price_moves.proofs.MadeAgain.{IsRetracing}
use Rattle.price_moves.proofs.retracing.retrace.Given as goal

abbrev pub invariant-loop-place : goal.invariant-loop-place
invariant-loop-place l = IsRetracing l.parts l.fn.work.orders l.fn.work.prices l.trace l.work.orders l.work.prices l.place
