use Rattle.std.proofs.Common.{◌^◌}
use Rattle.excess_bounds.proofs.Sums.{IsSumBefore}
use Rattle.even_prices.specs.Private.{low_beside, high_beside}
use Rattle.even_prices.proofs.beside.sum_beside.Given as goal

abbrev pub invariant-loop-cell : goal.invariant-loop-cell
invariant-loop-cell l = record {
  low : IsSumBefore (2 ^ 44) (low_beside l.quotes l.grain) l.cells l.cell-index l.low;
  high : IsSumBefore (2 ^ 44) (high_beside l.quotes l.grain) l.cells l.cell-index l.high;
}
