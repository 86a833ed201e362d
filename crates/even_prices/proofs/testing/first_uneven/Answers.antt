use Rattle.std.proofs.Common.{below_more}
use Rattle.even_prices.proofs.testing.first_uneven.Goals as goal

pub loop-asset-preserved : goal.loop-asset-preserved
loop-asset-preserved c = below_more _ _ c.loop-asset.invariant (c.is_even.ensures.0 c.if-not-is_even.false)
