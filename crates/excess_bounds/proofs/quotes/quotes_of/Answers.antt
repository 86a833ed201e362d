use Rattle.std.proofs.lemmas.List.Elements.{All-more}
use Rattle.flow_orders.specs.Orders.{IsOrder}
use Rattle.excess_bounds.proofs.Kept.{quotes_more}
use Rattle.excess_bounds.proofs.quotes.quotes_of.Goals as goal

pub loop-order-preserved : goal.loop-order-preserved
loop-order-preserved c = (
  quotes_more _ _ _ _ _ _ _ c.loop-order-test.true c.order-item.is c.loop-order.invariant.0 c.of.ensures.value c.in_ok-push.ensures.items,
  All-more IsOrder _ _ c.order-item.result c.loop-order-test.true c.loop-order.invariant.1 (rw (← c.order-item.is) c.of.ensures.order),
)
