use Rattle.std.proofs.Common.{◌≡◌}
use Rattle.std.specs.Prelude.{vec_len, vec_capacity}
use Rattle.excess_bounds.proofs.StepFacts.{IsClosing}
use Rattle.excess_bounds.proofs.narrowing.close.Given as goal

abbrev pub invariant-loop-at : goal.invariant-loop-at
invariant-loop-at l =
    IsClosing l.is_low l.fn.steps.items l.steps.items l.kept l.at l.rest
    × (vec_len l.steps ≡ vec_len l.fn.steps)
    × (vec_capacity l.steps ≡ vec_capacity l.fn.steps)
