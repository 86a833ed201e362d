use Rattle.std.proofs.Common.{◌≡◌, ◌-◌, length}
use Rattle.std.specs.Prelude.{vec_capacity}
use Rattle.excess_bounds.specs.Steps.{IsNarrowed, IsBracket, asked_after}
use Rattle.excess_bounds.proofs.Halving.{turns}
use Rattle.excess_bounds.proofs.narrowing.narrow.Given as goal

abbrev pub invariant-loop-bracket : goal.invariant-loop-bracket
invariant-loop-bracket l =
    IsNarrowed (asked_after l.parts l.quotes l.fn.direction l.cells) l.steps.items l.rest (length l.cells) l.bracket.low l.bracket.high
    × IsBracket (asked_after l.parts l.quotes l.fn.direction l.cells) l.bound l.reach l.bracket.low l.bracket.high
    × (vec_capacity l.steps ≡ vec_capacity l.fn.steps)

abbrev pub decreases-loop-bracket : goal.decreases-loop-bracket
decreases-loop-bracket l = turns (l.bracket.high - l.bracket.low) l.guess.slow
