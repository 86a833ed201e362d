use Rattle.excess_bounds.proofs.Listing.{none_more}
use Rattle.excess_bounds.proofs.columns.no_cells.Goals as goal

pub loop-asset-preserved : goal.loop-asset-preserved
loop-asset-preserved c = none_more _ _ _ _ c.loop-asset.invariant c.new.ensures c.in_ok-push.ensures.items
