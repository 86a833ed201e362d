use Rattle.std.proofs.Common.{◌≡◌, map, take}
use Rattle.std.specs.Prelude.{All}
use Rattle.flow_orders.specs.Orders.{IsOrder}
use Rattle.excess_bounds.specs.Quotes.{quote_at}
use Rattle.excess_bounds.proofs.quotes.quotes_of.Given as goal

abbrev pub invariant-loop-order : goal.invariant-loop-order
invariant-loop-order l =
    (l.quotes.items ≡ map (quote_at l.prices) (take l.order-index l.orders)) × All IsOrder (take l.order-index l.orders)
