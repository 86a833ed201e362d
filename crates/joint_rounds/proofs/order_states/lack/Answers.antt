use Rattle.std.proofs.Common.{◌≡◌, ◌^◌, ◌≤◌, pos, arith}
use Rattle.std.specs.Prelude.{unsigned_abs}
use Rattle.std.specs.Int.{w64, w128}
use Rattle.std.proofs.lemmas.Int.{to_z-of_z, to_z_pos, fits_signed_from_abs}
use Rattle.joint_rounds.specs.OrderStates.{lack}
use Rattle.joint_rounds.proofs.StateFacts.{lack_is, lack_small}
use Rattle.joint_rounds.proofs.order_states.lack.Goals as goal

is_lack : (c : goal.After-quotient) → c.quotient.result ≡ lack c.args.m c.args.v c.args.share c.args.k
is_lack c =
    let v = to_z-of_z w128 c.args.v c.ranges.v in
    let f = to_z-of_z w128 c.force.result (record { sfits = c.force.type_inv }) in
    let k = to_z_pos w128 c.args.k (omega (arith, c.requires.most)) in
    let k2 = to_z-of_z w128 (pos c.args.k) (fits_signed_from_abs w128 _ (omega (arith, c.requires.most))) in
    lack_is c.args.m c.args.share c.args.k c.args.v c.force.result c.quotient.result (rw v at c.force.ensures.value) (rw (f, k) at c.quotient.ensures.value)

is_small : (c : goal.After-quotient) → unsigned_abs c.quotient.result ≤ 2 ^ 34
is_small c = rw (is_lack c) (lack_small c.args.m c.args.line c.args.v c.args.share c.args.k c.requires.share c.requires.value)

pub overflow_cast-result : goal.overflow_cast-result
overflow_cast-result c = rw (to_z-of_z w128 c.quotient.result (record { sfits = c.quotient.type_inv })) (fits_signed_from_abs w64 _ (omega (arith, is_small c)))

pub returns : goal.returns
returns c =
    rw (to_z-of_z w128 c.quotient.result (record { sfits = c.quotient.type_inv }), to_z-of_z w64 c.quotient.result (fits_signed_from_abs w64 _ (omega (arith, is_small c))))
    (record { value = is_lack c; small = is_small c })
