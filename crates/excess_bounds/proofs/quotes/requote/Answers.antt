use Rattle.excess_bounds.proofs.Requoting.{requote_more}
use Rattle.excess_bounds.proofs.quotes.requote.Goals as goal

pub loop-cell-preserved : goal.loop-cell-preserved
loop-cell-preserved c = requote_more _ _ _ _ _ _ _ _ c.loop-cell-test.true c.after-quote.ensures c.loop-cell.invariant
