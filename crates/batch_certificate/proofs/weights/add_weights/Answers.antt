use Rattle.std.proofs.Common.{subst}
use Rattle.std.specs.Prelude.{unsigned_abs}
use Rattle.std.proofs.lemmas.List.Elements.{All-more}
use Rattle.flow_orders.specs.Orders.{IsOrder}
use Rattle.batch_certificate.specs.Weighing.{square}
use Rattle.batch_certificate.proofs.Weighing.{one_weighed, all_weighed, weights_little, squares_little}
use Rattle.batch_certificate.proofs.weights.add_weights.Goals as goal

pub loop-order-preserved : goal.loop-order-preserved
loop-order-preserved c = record {
  spreads = one_weighed unsigned_abs weights_little _ _ _ c.order-item.result _ _ c.loop-order-test.true c.order-item.is c.add_order.ensures.order.row c.loop-order.invariant.spreads c.add_order.ensures.spreads;
  squares = one_weighed square squares_little _ _ _ c.order-item.result _ _ c.loop-order-test.true c.order-item.is c.add_order.ensures.order.row c.loop-order.invariant.squares c.add_order.ensures.squares;
  orders = All-more IsOrder _ _ c.order-item.result c.loop-order-test.true c.loop-order.invariant.orders (subst IsOrder c.order-item.is c.add_order.ensures.order);
}

pub returns-clause-spreads : goal.returns-clause-spreads
returns-clause-spreads c = all_weighed unsigned_abs _ _ _ _ c.loop-order-test.false c.loop-order.invariant.spreads

pub returns-clause-squares : goal.returns-clause-squares
returns-clause-squares c = all_weighed square _ _ _ _ c.loop-order-test.false c.loop-order.invariant.squares
