use Rattle.std.proofs.Common.{◌<◌, ◌^◌, pos, ap, ◌∙◌, arith}
use Rattle.std.specs.Int.{w128}
use Rattle.std.proofs.lemmas.Int.{to_z_pos}
use Rattle.std.proofs.lemmas.List.{take_all}
use Rattle.flow_orders.specs.Outcomes.{dual_of}
use Rattle.flow_orders.proofs.Limits.{orders_fit}
use Rattle.dual_value.proofs.dual_floor.Goals as goal

pub returns-clause-value : goal.returns-clause-value
returns-clause-value c =
    let small : c.loop-order.sum < 2 ^ 127 = omega (arith, c.loop-order.invariant.1, c.loop-order.auto.order-index-end, c.requires.few, orders_fit) in
    to_z_pos w128 c.loop-order.sum small ∙ ap pos c.loop-order.invariant.0 ∙ ap (λ l. pos (dual_of l c.args.prices.now)) (take_all c.loop-order.order-index c.args.orders.now c.loop-order-test.false)
