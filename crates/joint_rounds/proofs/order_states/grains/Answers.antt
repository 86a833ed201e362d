use Rattle.std.proofs.Common.{◌^◌, ◌≤◌, ◌*ℤ◌, ◌∙◌, pos, ap, arith}
use Rattle.std.specs.Prelude.{unsigned_abs}
use Rattle.std.specs.Int.{w64, w128}
use Rattle.std.proofs.lemmas.Int.{to_z-of_z}
use Rattle.joint_rounds.proofs.StateFacts.{grains_is, grains_small, lifted_fits}
use Rattle.joint_rounds.proofs.order_states.grains.Goals as goal

pub product-requires : goal.product-requires
product-requires c =
    let f = to_z-of_z w128 c.from.result (record { sfits = c.from.type_inv }) in
    let p = to_z-of_z w128 c.power.result (record { sfits = c.power.type_inv }) in
    let x = c.from.ensures ∙ to_z-of_z w64 c.args.x c.ranges.x in
    rw (f, p, x) (omega (arith, lifted_fits c.args.x c.power.result c.coarseness.result c.requires c.power.ensures c.coarseness.ensures.most))

pub scale-requires-clause-small : goal.scale-requires-clause-small
scale-requires-clause-small c =
    let f = to_z-of_z w128 c.from.result (record { sfits = c.from.type_inv }) in
    let p = to_z-of_z w128 c.power.result (record { sfits = c.power.type_inv }) in
    let x = c.from.ensures ∙ to_z-of_z w64 c.args.x c.ranges.x in
    let size = rw (f, p, x) at c.product.ensures.size in
    rw (to_z-of_z w128 c.product.result (record { sfits = c.product.type_inv }), size)
    (omega (arith, lifted_fits c.args.x c.power.result c.coarseness.result c.requires c.power.ensures c.coarseness.ensures.most))

pub returns : goal.returns
returns c =
    let f = to_z-of_z w128 c.from.result (record { sfits = c.from.type_inv }) in
    let p = to_z-of_z w128 c.power.result (record { sfits = c.power.type_inv }) in
    let x = c.from.ensures ∙ to_z-of_z w64 c.args.x c.ranges.x in
    let size = rw (f, p, x) at c.product.ensures.size in
    let value = rw (f, p, x) at c.product.ensures.value in
    let q = to_z-of_z w128 c.product.result (record { sfits = c.product.type_inv }) in
    let r = to_z-of_z w128 c.scale.result (record { sfits = c.scale.type_inv }) in
    let is = rw q at c.scale.ensures.value in
    let most = lifted_fits c.args.x c.power.result c.coarseness.result c.requires c.power.ensures c.coarseness.ensures.most in
    let power = c.power.ensures ∙ ap (λ k. pos (2 ^ k)) c.coarseness.ensures.value in
    let small : unsigned_abs c.scale.result ≤ 2 ^ 72 = rw is (grains_small c.product.result (omega (arith, size, most))) in
    rw r (record {
      value = grains_is c.args.s c.args.x c.product.result c.scale.result (value ∙ ap (λ y. c.args.x *ℤ y) power) is;
      small = small;
    })
