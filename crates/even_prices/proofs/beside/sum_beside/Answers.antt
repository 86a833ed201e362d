use Rattle.std.proofs.Common.{arith}
use Rattle.excess_bounds.proofs.Sums.{one_more_summed}
use Rattle.even_prices.proofs.beside.sum_beside.Goals as goal

pub loop-cell-preserved : goal.loop-cell-preserved
loop-cell-preserved c =
    let part = c.part_beside-part in
    record {
      low = one_more_summed _ _ _ _ _ _ _ (omega arith) c.requires.few c.loop-cell-test.true c.loop-cell.invariant.low part.ensures.low part.ensures.low_bound;
      high = one_more_summed _ _ _ _ _ _ _ (omega arith) c.requires.few c.loop-cell-test.true c.loop-cell.invariant.high part.ensures.high part.ensures.high_bound;
    }
