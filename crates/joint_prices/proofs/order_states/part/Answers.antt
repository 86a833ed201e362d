use Rattle.std.proofs.Common.{◌∙◌, ◌^◌, ◌*ℤ◌, pos, arith}
use Rattle.std.specs.Int.{w64, w128}
use Rattle.std.proofs.lemmas.Int.{to_z-of_z, to_z_pos, fits_signed_from_abs, fits_signed_mul}
use Rattle.joint_prices.proofs.OrderStateFacts.{part_is}
use Rattle.joint_prices.specs.OrderStates.{one}
use Rattle.joint_prices.proofs.order_states.part.Goals as goal

pub returns-clause-value : goal.returns-clause-value
returns-clause-value c =
    let r = to_z-of_z w64 c.within_60.result (record { sfits = c.within_60.type_inv }) in
    let q = to_z-of_z w128 c.quotient.result (record { sfits = c.quotient.type_inv }) in
    let x = to_z-of_z w128 c.args.x c.ranges.x in
    let o = to_z-of_z w128 c.from.result (record { sfits = c.from.type_inv }) in
    let k = to_z_pos w128 c.args.k (omega (arith, c.requires.most)) in
    let k2 = to_z-of_z w128 (pos c.args.k) (fits_signed_from_abs w128 _ (omega (arith, c.requires.most))) in
    let p = to_z-of_z w128 (c.args.x *ℤ pos one) (fits_signed_mul w128 c.args.x (pos one) (2 ^ 94) (2 ^ 32) (omega (arith, c.requires.x)) (omega arith) (omega arith)) in
    r ∙ part_is c.args.x c.quotient.result c.within_60.result c.args.k (rw (x, o, c.from.ensures, p, k) at c.quotient.ensures.value) (rw q at c.within_60.ensures.value)
