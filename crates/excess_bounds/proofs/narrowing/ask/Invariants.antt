use Rattle.std.proofs.Common.{◌≡◌, ◌^◌, ◌++◌, map, take, drop}
use Rattle.std.specs.Prelude.{vec_len, vec_capacity}
use Rattle.excess_bounds.specs.Steps.{part_after, looked}
use Rattle.excess_bounds.proofs.Sums.{IsSumBefore}
use Rattle.excess_bounds.proofs.narrowing.ask.Given as goal

abbrev pub invariant-loop-at : goal.invariant-loop-at
invariant-loop-at l =
    (l.steps.items ≡ map (looked l.amount) (take l.at l.fn.steps.items) ++ drop l.at l.fn.steps.items)
    × IsSumBefore (2 ^ 44) (part_after l.amount) l.fn.steps.items l.at l.sum
    × (vec_len l.steps ≡ vec_len l.fn.steps)
    × (vec_capacity l.steps ≡ vec_capacity l.fn.steps)
