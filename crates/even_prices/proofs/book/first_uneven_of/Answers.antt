use Rattle.std.proofs.Common.{below_more}
use Rattle.even_prices.proofs.SideSums.{even_by}
use Rattle.even_prices.proofs.Tested.{denied}
use Rattle.even_prices.proofs.book.first_uneven_of.Goals as goal

pub loop-asset-preserved : goal.loop-asset-preserved
loop-asset-preserved c =
    let tells = even_by _ _ _ _ _ _ _ _ c.sums_of-low.ensures.orders c.requires.assets c.loop-asset-test.true c.sums_of-low.ensures.sums c.sums_of-high.ensures.sums c.sums_of-above.ensures.sums c.sums_of-below.ensures.sums c.is_balanced.ensures in
    below_more _ _ c.loop-asset.invariant (tells.0 c.if-not-is_balanced.false)

pub returns-then-not-is_balanced-clause-uneven : goal.returns-then-not-is_balanced-clause-uneven
returns-then-not-is_balanced-clause-uneven c =
    let tells = even_by _ _ _ _ _ _ _ _ c.sums_of-low.ensures.orders c.requires.assets c.loop-asset-test.true c.sums_of-low.ensures.sums c.sums_of-high.ensures.sums c.sums_of-above.ensures.sums c.sums_of-below.ensures.sums c.is_balanced.ensures in
    record { inside = c.loop-asset-test.true; before = c.loop-asset.invariant; uneven = denied c.is_balanced.result c.if-not-is_balanced.true tells }
