use Rattle.std.proofs.Common.{length}
use Rattle.joint_rounds.proofs.RoundFacts.{IsBegun}
use Rattle.joint_rounds.proofs.sums.fill.Given as goal

abbrev pub invariant-loop-a : goal.invariant-loop-a
invariant-loop-a l = IsBegun (λ a. l.number) (length l.fn.sums) l.a l.sums
