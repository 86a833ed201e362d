-- What orders trade in a batch, the imbalance of each asset, and which orders stay.
use Rattle.std.specs.Prelude.{ℕ, ◌+◌, nat_lt, ◌==◌, not, ℤ, pos, ◌*ℤ◌, List, [], ◌∷◌, map, length}
use Rattle.std.specs.List.{range_with_len, filter}
use Rattle.list_sums.specs.Sums.{int_sum_by}
use Rattle.weight_rows.specs.Rows.{weight_in, price_of}
use Rattle.flow_orders.specs.Orders.{Order}
use Rattle.flow_orders.specs.Excess.{price_for}

-- an order with the rate that it trades in a batch, in units of its portfolio
pub record Trade : Type 0 where
  pub order : Order
  pub traded : ℕ

-- the trades of a list of orders, with one rate each
abbrev pub trades : List Order → List ℕ → List Trade
trades [] rates = []
trades (order ∷ orders) [] = []
trades (order ∷ orders) (rate ∷ rates) = record { order = order; traded = rate } ∷ trades orders rates

-- the account whose order trades
abbrev pub trader : Trade → ℕ
trader t = t.order.account

-- what a trade costs at these prices, in grains
abbrev pub paid : List ℤ → Trade → ℤ
paid prices t = pos t.traded *ℤ price_for prices t.order

-- the units of an asset that a trade brings, negative if it gives them away
abbrev pub received : ℕ → Trade → ℤ
received asset t = weight_in t.order.row asset *ℤ pos t.traded

-- the imbalance of an asset, in units: what all trades buy of it, less what they sell
abbrev pub residual : List Trade → ℕ → ℤ
residual ts asset = int_sum_by (received asset) ts

-- what the imbalances cost at these prices, in grains: the sum of each asset's price times its imbalance
abbrev pub residual_cost : List ℤ → List Trade → ℤ
residual_cost prices ts = int_sum_by (λ asset. price_of prices asset *ℤ residual ts asset) (range_with_len 0 (length prices))

-- an order after what it traded is added to its fill
abbrev pub after_fill : Trade → Order
after_fill t = record (t.order) { filled = t.order.filled + t.traded }

-- the orders that aren't filled to their cap by their trades
abbrev pub staying : List Trade → List Order
staying ts = filter (λ (o : Order). nat_lt o.filled o.cap) (map after_fill ts)

-- the orders that stay live after batch number `batch`, cleared or skipped: all but those whose last batch it was
abbrev pub going_on : ℕ → List Order → List Order
going_on batch orders = filter (λ o. not (o.last == batch)) orders
