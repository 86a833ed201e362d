use Rattle.std.proofs.Common.{◌∙◌, ap}
use Rattle.flow_orders.specs.Orders.{Order, terms_of}
use Rattle.joint_prices.specs.OrderStates.{line}
use Rattle.joint_prices.proofs.Reaching.{mapped_one}
use Rattle.joint_rounds.proofs.searching.lines_of.Goals as goal

pub loop-order-preserved : goal.loop-order-preserved
loop-order-preserved c =
    let is = c.line_of.ensures.value ∙ ap line c.curve.ensures.value ∙ ap (λ (o : Order). line (terms_of o)) c.order-item.is in
    mapped_one (λ (o : Order). line (terms_of o)) c.args.orders.now c.loop-order.order-index c.order-item.result c.loop-order.lines.items _ _ c.loop-order-test.true c.loop-order.invariant is c.in_ok-push.ensures.items
