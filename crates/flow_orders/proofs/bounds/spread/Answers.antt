use Rattle.std.proofs.Common.{◌<◌, ◌^◌, pos, ap, ◌∙◌, arith}
use Rattle.std.specs.Prelude.{unsigned_abs}
use Rattle.std.specs.Int.{w64}
use Rattle.std.specs.List.{sum_by}
use Rattle.std.proofs.lemmas.Int.{to_z_pos}
use Rattle.std.proofs.lemmas.List.{take_all}
use Rattle.weight_rows.specs.Rows.{weight_in}
use Rattle.flow_orders.proofs.Limits.{orders_fit}
use Rattle.flow_orders.proofs.bounds.spread.Goals as goal

pub returns-clause-value : goal.returns-clause-value
returns-clause-value c =
    let small : c.loop-order.sum < 2 ^ 63 = omega (arith, c.loop-order.invariant.1, c.loop-order.auto.order-index-end, c.requires, orders_fit) in
    to_z_pos w64 c.loop-order.sum small ∙ ap pos c.loop-order.invariant.0 ∙ ap (λ l. pos (sum_by (λ o. unsigned_abs (weight_in o.row c.args.asset)) l)) (take_all c.loop-order.order-index c.args.orders.now c.loop-order-test.false)
