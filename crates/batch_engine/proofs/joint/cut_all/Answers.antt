use Rattle.std.proofs.Common.{◌≡◌, ◌<◌, ◌∙◌, cond, eqb, pos, length, get_or, refl, arith}
use Rattle.std.specs.Int.{w64}
use Rattle.std.proofs.lemmas.Int.{ints, to_z-of_z, fits_signed_from_abs}
use Rattle.std.proofs.lemmas.List.{length-set}
use Rattle.std.proofs.lemmas.List.Elements.{All-set}
use Rattle.weight_rows.specs.Rows.{IsPrice}
use Rattle.flow_orders.specs.Excess.{spread}
use Rattle.joint_prices.specs.Numbers.{within}
use Rattle.batch_engine.proofs.Tried.{cut_more}
use Rattle.batch_engine.proofs.joint.cut_all.Goals as goal

pub loop-asset-preserved : goal.loop-asset-preserved
loop-asset-preserved c =
    let k = c.loop-asset.asset in
    let inv = c.loop-asset.invariant in
    let there : k < length c.loop-asset.prices = omega (arith, c.loop-asset-test.true, inv.2, c.requires.count) in
    let also : k < length c.args.start.now = omega (arith, there, inv.2, c.requires.count) in
    let s = get_or c.args.start.now k (pos 0) in
    let p = get_or c.loop-asset.prices k (pos 0) in
    let near = c.requires.range k (pos 0) also in
    let sz = to_z-of_z w64 s (fits_signed_from_abs w64 s (omega (arith, ints, near.0, near.1))) in
    let pz = to_z-of_z w64 p (fits_signed_from_abs w64 p (omega (arith, ints, inv.3 k (pos 0) there))) in
    let r = to_z-of_z w64 c.joint_price-price.result (record { sfits = c.joint_price-price.type_inv }) in
    let value : c.joint_price-price.result ≡ cond (eqb (spread c.args.work.now.orders k) 0) s (within 60 p) = rw (c.from-place.ensures, sz, pz) at c.joint_price-price.ensures.value in
    let more = cut_more c.args.work.now.orders c.args.start.now c.args.prices.now c.loop-asset.prices k s p c.joint_price-price.result there refl refl value inv.0 inv.1 in
    rw (c.from-place.ensures, r) (more.0, more.1, length-set _ _ _ ∙ inv.2, All-set IsPrice c.loop-asset.prices k c.joint_price-price.result c.joint_price-price.ensures.range inv.3)
