-- The order that the fields of the code's `Order` hold.
use Rattle.flow_orders.specs.declared.order.Order.TheInside.{Inside}
use Rattle.flow_orders.specs.Orders.{Order, IsOrder, price_of_ticks}

-- the order that these fields hold: they have its limits in ticks, the definitions in grains
abbrev pub order_in : Inside → Order
order_in o = record {
  number = o.number;
  account = o.account;
  low = price_of_ticks o.low;
  high = price_of_ticks o.high;
  rate = o.rate;
  cap = o.cap;
  filled = o.filled;
  row = o.row;
  last = o.last;
}

-- the fields hold an order within the limits, of which some quantity remains
abbrev pub IsKept : Inside → Type 0
IsKept o = IsOrder (order_in o)
