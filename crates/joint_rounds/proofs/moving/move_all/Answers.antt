use Rattle.std.proofs.Common.{◌≡◌, ◌<◌, ◌∙◌, ℤ, pos, ◌+ℤ◌, length, get_or, ap, arith}
use Rattle.std.specs.Int.{w64}
use Rattle.std.proofs.lemmas.Int.{to_z-of_z, fits_signed_from_abs}
use Rattle.std.proofs.lemmas.List.{length-set}
use Rattle.std.proofs.lemmas.List.Elements.{All-set}
use Rattle.weight_rows.specs.Rows.{IsPrice}
use Rattle.joint_prices.specs.Numbers.{within}
use Rattle.joint_rounds.specs.OrderStates.{grains}
use Rattle.joint_prices.proofs.Filling.{zipped_more, zipped_all, kept_at, kept_more}
use Rattle.joint_rounds.proofs.moving.move_all.Goals as goal

pub loop-a-preserved : goal.loop-a-preserved
loop-a-preserved c =
    let a = c.loop-a.a in
    let there : a < length c.loop-a.prices = omega (arith, c.loop-a-test.true, c.loop-a.invariant.2) in
    let also : a < length c.args.by.now = omega (arith, c.loop-a-test.true, c.requires.count) in
    let p = get_or c.loop-a.prices a (pos 0) in
    let b = get_or c.args.by.now a (pos 0) in
    let pz = to_z-of_z w64 p (fits_signed_from_abs w64 p (omega (arith, c.loop-a.invariant.3 a (pos 0) there))) in
    let bz = to_z-of_z w64 b (fits_signed_from_abs w64 b (omega (arith, c.requires.small a (pos 0) also))) in
    let r = to_z-of_z w64 c.moved-price.result (record { sfits = c.moved-price.type_inv }) in
    let value : c.moved-price.result ≡ within 61 (p +ℤ grains c.args.s b) = rw (pz, bz) at c.moved-price.ensures.value in
    let is = value ∙ ap (λ x. within 61 (x +ℤ grains c.args.s b)) (kept_at c.loop-a.prices c.args.prices.now a (pos 0) c.loop-a.invariant.1) in
    rw r (
      zipped_more (λ (x : ℤ) (y : ℤ). within 61 (x +ℤ grains c.args.s y)) c.args.prices.now c.args.by.now c.loop-a.prices _ a (pos 0) (pos 0) c.moved-price.result c.loop-a-test.true also there is c.loop-a.invariant.0,
      kept_more c.loop-a.prices c.args.prices.now a c.moved-price.result c.loop-a.invariant.1,
      length-set _ _ _ ∙ c.loop-a.invariant.2,
      All-set IsPrice c.loop-a.prices a c.moved-price.result c.moved-price.ensures.range c.loop-a.invariant.3,
    )

pub returns-clause-value : goal.returns-clause-value
returns-clause-value c =
    zipped_all (λ (x : ℤ) (y : ℤ). within 61 (x +ℤ grains c.args.s y)) c.args.prices.now c.args.by.now c.loop-a.prices _ c.loop-a.a c.loop-a-test.false (omega (arith, c.loop-a-test.false, c.loop-a.invariant.2)) c.loop-a.invariant.0
