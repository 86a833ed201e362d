use Rattle.std.proofs.Common.{to_z, of_z, ◌≡◌, ◌∙◌, ◌^◌, ◌≤◌, ◌*ℤ◌, pos, ap, arith}
use Rattle.std.specs.Prelude.{unsigned_abs}
use Rattle.std.specs.Int.{w64, w128}
use Rattle.std.proofs.lemmas.Int.{ints, to_z-of_z, fits_signed_mul}
use Rattle.list_sums.proofs.Products.{unsigned_abs-mul_le}
use Rattle.joint_prices.proofs.OrderStateFacts.{aim_is}
use Rattle.joint_prices.proofs.order_states.OrderState.aim.Goals as goal

room_small : (c : goal.After-from-2) → unsigned_abs c.from.result ≤ 2 ^ 24
room_small c = omega (arith, ints, c.from.ensures, c.room.ensures.value, c.room.ensures.order_state.room)

target_small : (c : goal.After-from-2) → unsigned_abs c.from-2.result ≤ 2 ^ 61
target_small c = rw (c.from-2.ensures ∙ to_z-of_z w64 c.target.result (record { sfits = c.target.type_inv })) c.target.ensures.small

product : (c : goal.After-from-2) → to_z w128 (of_z w128 (to_z w128 (of_z w128 c.from.result) *ℤ to_z w128 (of_z w128 c.from-2.result))) ≡ c.from.result *ℤ c.from-2.result
product c =
    rw (to_z-of_z w128 c.from.result (record { sfits = c.from.type_inv }), to_z-of_z w128 c.from-2.result (record { sfits = c.from-2.type_inv }))
    (to_z-of_z w128 (c.from.result *ℤ c.from-2.result) (fits_signed_mul w128 c.from.result c.from-2.result (2 ^ 24) (2 ^ 61) (room_small c) (target_small c) (omega arith)))

pub returns-clause-value : goal.returns-clause-value
returns-clause-value c =
    product c ∙ aim_is c.args.self c.from.result c.from-2.result (c.from.ensures ∙ ap pos c.room.ensures.value) (c.from-2.ensures ∙ to_z-of_z w64 c.target.result (record { sfits = c.target.type_inv }) ∙ c.target.ensures.value)

pub returns-clause-small : goal.returns-clause-small
returns-clause-small c = rw (product c) (omega (arith, unsigned_abs-mul_le c.from.result c.from-2.result (2 ^ 24) (2 ^ 61) (room_small c) (target_small c)))
