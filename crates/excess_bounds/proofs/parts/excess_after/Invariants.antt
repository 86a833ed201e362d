use Rattle.std.proofs.Common.{◌^◌}
use Rattle.excess_bounds.specs.Private.{low_after, high_after}
use Rattle.excess_bounds.proofs.Sums.{IsSumBefore}
use Rattle.excess_bounds.proofs.parts.excess_after.Given as goal

abbrev pub invariant-loop-cell : goal.invariant-loop-cell
invariant-loop-cell l =
    IsSumBefore (2 ^ 44) (low_after l.parts l.quotes l.amount) l.cells l.cell-index l.low
    × IsSumBefore (2 ^ 44) (high_after l.parts l.quotes l.amount) l.cells l.cell-index l.high
