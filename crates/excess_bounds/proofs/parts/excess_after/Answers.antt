use Rattle.std.proofs.Common.{arith}
use Rattle.excess_bounds.proofs.Sums.{one_more_summed}
use Rattle.excess_bounds.proofs.parts.excess_after.Goals as goal

pub loop-cell-preserved : goal.loop-cell-preserved
loop-cell-preserved c =
    let part = c.part_after-part in (
      one_more_summed _ _ _ _ _ _ _ (omega arith) c.requires.column.few c.loop-cell-test.true c.loop-cell.invariant.0 part.ensures.low part.ensures.low_bound,
      one_more_summed _ _ _ _ _ _ _ (omega arith) c.requires.column.few c.loop-cell-test.true c.loop-cell.invariant.1 part.ensures.high part.ensures.high_bound,
    )
