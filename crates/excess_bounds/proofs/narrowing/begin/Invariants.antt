use Rattle.std.proofs.Common.{◌≡◌, pos, take}
use Rattle.std.specs.Prelude.{vec_capacity}
use Rattle.excess_bounds.specs.Steps.{IsNarrowed, asked_after}
use Rattle.excess_bounds.proofs.narrowing.begin.Given as goal

abbrev pub invariant-loop-cell : goal.invariant-loop-cell
invariant-loop-cell l =
    IsNarrowed (asked_after l.parts l.quotes l.direction (take l.cell-index l.cells)) l.steps.items (pos 0) l.cell-index 0 l.reach
    × (vec_capacity l.steps ≡ vec_capacity l.fn.steps)
