use Rattle.std.proofs.Common.{◌∙◌}
use Rattle.coordinate_search.proofs.InTurn.{skip_failed}
use Rattle.coordinate_search.proofs.searching.unsettled_between.Goals as goal

pub loop-asset-preserved : goal.loop-asset-preserved
loop-asset-preserved c = c.loop-asset.invariant ∙ skip_failed _ _ _ c.loop-asset-test.true c.in_default.ensures.settled
