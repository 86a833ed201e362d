use Rattle.std.proofs.Common.{pos, ap, ◌∙◌, ◌^◌, ◌+ℤ◌, ◌-ℤ◌, ◌*ℤ◌, arith}
use Rattle.std.specs.Int.{w64, w128}
use Rattle.std.proofs.lemmas.Int.{ints, to_z-of_z, fits_signed_from_abs}
use Rattle.joint_prices.specs.OrderStates.{part}
use Rattle.joint_prices.proofs.OrderStateFacts.{target_is}
use Rattle.joint_prices.proofs.order_states.OrderState.target.Goals as goal

pub returns-clause-value : goal.returns-clause-value
returns-clause-value c =
    let a = to_z-of_z w64 c.from.result (record { sfits = c.from.type_inv }) in
    let b = to_z-of_z w64 c.part.result (record { sfits = c.part.type_inv }) in
    let sum = to_z-of_z w64 (c.from.result +ℤ c.part.result) (fits_signed_from_abs w64 _ (omega (arith, ints, c.from.ensures, c.share.ensures.share.1, c.part.ensures.small))) in
    let lack = rw (to_z-of_z w128 c.args.amount c.ranges.amount) at c.lack.ensures.value in
    let found = rw (to_z-of_z w128 c.lack.result (record { sfits = c.lack.type_inv })) at c.part.ensures.value in
    rw (a, b, sum) (target_is c.args.amount c.from.result c.part.result c.args.self (c.from.ensures ∙ ap pos c.share.ensures.value)
    (found ∙ ap (λ x. part x c.stiffness.result) lack ∙ ap (part (c.args.self.lack -ℤ pos (2 ^ 12) *ℤ c.args.amount)) c.stiffness.ensures.value))
