use Rattle.std.proofs.Common.{◌≡◌, ◌∙◌, ◌+ℤ◌, ◌-ℤ◌, pos, ap, arith}
use Rattle.std.specs.Int.{w64, w128}
use Rattle.std.proofs.lemmas.Int.{ints, to_z-of_z, to_z_pos, fits_signed_from_abs}
use Rattle.joint_rounds.proofs.StateFacts.{target_is}
use Rattle.joint_rounds.proofs.order_states.OrderState.target.Goals as goal

pub returns : goal.returns
returns c =
    let a = to_z-of_z w128 c.from.result (record { sfits = c.from.type_inv }) in
    let b = to_z-of_z w128 c.from-2.result (record { sfits = c.from-2.type_inv }) in
    let q = to_z-of_z w128 c.quotient-by.result (record { sfits = c.quotient-by.type_inv }) in
    let p = to_z-of_z w128 c.pushed.result (record { sfits = c.pushed.type_inv }) in
    let k = to_z_pos w128 c.stiffness.result (omega (arith, c.stiffness.ensures.most)) in
    let amount = to_z-of_z w128 c.args.amount c.ranges.amount in
    let lack : c.from-2.result ≡ c.lack.result = c.from-2.ensures ∙ to_z-of_z w64 c.lack.result (record { sfits = c.lack.type_inv }) in
    let moved = rw p at c.quotient-by.ensures.small in
    let sum = to_z-of_z w128 (c.from.result +ℤ c.from-2.result) (fits_signed_from_abs w128 _ (omega (arith, ints, c.from.ensures, c.share.ensures.share.1, lack, c.lack.ensures.small))) in
    let less = to_z-of_z w128 (c.from.result +ℤ c.from-2.result -ℤ c.quotient-by.result) (fits_signed_from_abs w128 _ (omega (arith, ints, c.from.ensures, c.share.ensures.share.1, lack, c.lack.ensures.small, moved, c.pushed.ensures.small))) in
    let by = rw (p, k, c.stiffness.ensures.value) at c.quotient-by.ensures.value in
    rw (a, b, q, sum, less) (record { value = target_is c.args.amount c.from.result c.from-2.result c.quotient-by.result c.pushed.result c.args.self (c.from.ensures ∙ ap pos c.share.ensures.value) (lack ∙ c.lack.ensures.value) (rw amount at c.pushed.ensures.value) by })
