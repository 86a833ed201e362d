use Rattle.std.proofs.Common.{◌≡◌, ◌++◌, length, take, drop}
use Rattle.joint_prices.specs.Solving.{reduced}
use Rattle.joint_rounds.proofs.vectors.reduce.Given as goal

abbrev pub invariant-loop-a : goal.invariant-loop-a
invariant-loop-a l =
    (reduced l.f l.other l.fn.xs ≡ take l.a l.xs ++ reduced l.f (drop l.a l.other) (drop l.a l.xs)) × (length l.xs ≡ length l.fn.xs)
