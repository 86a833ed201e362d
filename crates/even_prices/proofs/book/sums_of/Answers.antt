use Rattle.std.proofs.Common.{subst, arith}
use Rattle.std.proofs.lemmas.List.Elements.{All-more}
use Rattle.flow_orders.specs.Orders.{IsOrder}
use Rattle.even_prices.proofs.SideSums.{one_summed, all_summed, near_summed, all_orders}
use Rattle.even_prices.proofs.book.sums_of.Goals as goal

pub add_order-requires-clause-near : goal.add_order-requires-clause-near
add_order-requires-clause-near c = near_summed _ _ _ _ _ c.requires.few (omega (arith, c.loop-order-test.true)) c.loop-order.invariant.orders c.loop-order.invariant.sums

pub loop-order-preserved : goal.loop-order-preserved
loop-order-preserved c = record {
  sums = one_summed _ _ _ _ _ c.order-item.result _ _ c.loop-order-test.true c.order-item.is c.loop-order.invariant.sums c.add_order.ensures.grown;
  orders = All-more IsOrder _ _ c.order-item.result c.loop-order-test.true c.loop-order.invariant.orders (subst IsOrder c.order-item.is c.add_order.ensures.order);
}

pub returns-clause-sums : goal.returns-clause-sums
returns-clause-sums c = all_summed _ _ _ _ _ c.loop-order-test.false c.loop-order.invariant.sums

pub returns-clause-orders : goal.returns-clause-orders
returns-clause-orders c = all_orders _ _ c.loop-order-test.false c.loop-order.invariant.orders
