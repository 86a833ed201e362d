use Rattle.std.proofs.Common.{take}
use Rattle.std.specs.Prelude.{All}
use Rattle.flow_orders.specs.Orders.{IsOrder}
use Rattle.even_prices.proofs.SideSums.{AreSummedTo}
use Rattle.even_prices.proofs.book.sums_of.Given as goal

abbrev pub invariant-loop-order : goal.invariant-loop-order
invariant-loop-order l = record {
  sums : AreSummedTo l.side l.orders l.prices l.order-index l.sums;
  orders : All IsOrder (take l.order-index l.orders);
}
