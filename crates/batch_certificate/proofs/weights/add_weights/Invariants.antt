use Rattle.std.proofs.Common.{length, take}
use Rattle.std.specs.Prelude.{unsigned_abs, All}
use Rattle.flow_orders.specs.Orders.{IsOrder}
use Rattle.batch_certificate.specs.Weighing.{square}
use Rattle.batch_certificate.proofs.Weighing.{AreWeighed}
use Rattle.batch_certificate.proofs.weights.add_weights.Given as goal

abbrev pub invariant-loop-order : goal.invariant-loop-order
invariant-loop-order l = record {
  spreads : AreWeighed unsigned_abs (length l.initial.spreads) l.orders l.order-index l.spreads;
  squares : AreWeighed square (length l.initial.spreads) l.orders l.order-index l.squares;
  orders : All IsOrder (take l.order-index l.orders);
}
