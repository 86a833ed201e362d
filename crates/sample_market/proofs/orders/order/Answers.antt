use Rattle.std.proofs.Common.{◌+◌, List, pos, ◌+ℤ◌, ◌-ℤ◌, ap, ◌∙◌, w64, arith, None}
use Rattle.std.proofs.lemmas.Int.{to_z-of_z, fits_signed_from_abs}
use Rattle.wire_records.specs.Commands.{Place}
use Rattle.weight_rows.specs.declared.entries.Entry.{Entry}
use Rattle.sample_market.specs.Draws.{drawn}
use Rattle.sample_market.specs.Orders.{usual_price}
use Rattle.sample_market.proofs.Drawn.{order_is, after_is}
use Rattle.sample_market.proofs.orders.order.Goals as goal

pub returns-clause-order : goal.returns-clause-order
returns-clause-order c =
    let row = c.in_ok-entries.ensures in
    let limits = c.limits-low.ensures in
    let middle = to_z-of_z w64 c.middle-middle.result (record { sfits = c.middle-middle.type_inv }) in
    let low = to_z-of_z w64 c.limits-low.result.0 (fits_signed_from_abs w64 _ (omega (arith, limits.bound.0))) ∙ limits.low ∙ ap (λ x. x -ℤ pos (1 + c.below-half.result)) middle in
    let high = to_z-of_z w64 c.limits-low.result.1 (fits_signed_from_abs w64 _ (omega (arith, limits.bound.1))) ∙ limits.high ∙ ap (λ x. x +ℤ pos (1 + c.below-half.result)) middle in
    rw (c.new.ensures, c.from.ensures, c.from-2.ensures)
    (ap (Place None) (order_is c.args.place c.args.draws.now c.in_ok-entries.entries.items c.middle-middle.result _ _ c.row.new.draws c.middle-middle.new.draws c.below-half.new.self c.below-rate.new.self c.below-half.result c.below-rate.result c.below-turns.result
    row.row row.following (c.middle-middle.ensures.value ∙ ap (λ (r : List Entry). (usual_price r +ℤ pos (drawn 41 c.row.new.draws)) -ℤ pos 20) c.deref.ensures.value) c.middle-middle.ensures.next c.below-half.ensures.value c.below-half.ensures.next c.below-rate.ensures.value c.below-rate.ensures.next c.below-turns.ensures.value low high))

pub returns-clause-following : goal.returns-clause-following
returns-clause-following c =
    after_is c.args.draws.now c.row.new.draws c.middle-middle.new.draws c.below-half.new.self c.below-rate.new.self c.below-turns.new.self c.in_ok-entries.ensures.following c.middle-middle.ensures.next c.below-half.ensures.next c.below-rate.ensures.next c.below-turns.ensures.next
