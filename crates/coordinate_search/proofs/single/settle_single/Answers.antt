use Rattle.std.proofs.Common.{◌∙◌, refl}
use Rattle.coordinate_search.proofs.Settling.{none_settled, one_more_settled, AreSettled-all, kept}
use Rattle.coordinate_search.proofs.single.settle_single.Goals as goal

pub loop-asset-init : goal.loop-asset-init
loop-asset-init c = (refl, none_settled _ c.requires.some_parts _ c.requires.single c.prices.ensures.priced.each _ c.requires.start)

pub loop-asset-preserved : goal.loop-asset-preserved
loop-asset-preserved c =
    let orders = c.loop-asset.invariant.0 in
    let turn = c.settle_one.ensures in
    let inside = rw c.prices.ensures.value at c.loop-asset-test.true in
    (turn.orders ∙ orders, one_more_settled _ c.requires.some_parts _ c.requires.single c.prices.ensures.priced.each _ _ _ _ inside c.loop-asset.invariant.1 (rw orders at turn.prices))

pub returns-clause-settled : goal.returns-clause-settled
returns-clause-settled c =
    let past = rw c.prices.ensures.value at c.loop-asset-test.false in
    rw c.loop-asset.invariant.0 (AreSettled-all _ c.requires.some_parts _ c.requires.single c.prices.ensures.priced.each _ c.requires.start _ _ past c.loop-asset.invariant.1)

pub returns-clause-kept : goal.returns-clause-kept
returns-clause-kept c =
    let past = rw c.prices.ensures.value at c.loop-asset-test.false in
    kept _ c.requires.some_parts _ c.requires.single c.prices.ensures.priced.each _ c.requires.start _ _ past c.loop-asset.invariant.1
