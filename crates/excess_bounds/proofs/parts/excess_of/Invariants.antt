use Rattle.std.proofs.Common.{◌^◌}
use Rattle.excess_bounds.specs.Private.{low_now, high_now}
use Rattle.excess_bounds.proofs.Sums.{IsSumBefore}
use Rattle.excess_bounds.proofs.parts.excess_of.Given as goal

abbrev pub invariant-loop-cell : goal.invariant-loop-cell
invariant-loop-cell l =
    IsSumBefore (2 ^ 36) (low_now l.quotes) l.cells l.cell-index l.low × IsSumBefore (2 ^ 36) (high_now l.quotes) l.cells l.cell-index l.high
