-- The state of a search for prices as contracts see it, and what holds of every one.
use Rattle.std.specs.Prelude.{◌≡◌, ℤ, ◌≤◌, List, length, All}
use Rattle.weight_rows.specs.Rows.{IsPrice, IsPricedBy}
use Rattle.flow_orders.specs.Orders.{Order, IsOrder, most_orders}
use Rattle.flow_orders.specs.Residuals.{most_prices}
use Rattle.excess_bounds.specs.Quotes.{Quote, quotes_at}

-- the orders of a batch, and one price for each asset, in grains
pub record Workspace : Type 0 where
  pub orders : List Order
  pub prices : List ℤ

-- at most 16,384 orders, each within its limits; at most 64 prices, within their range; and a price for each asset that an order names
pub record ArePriced (orders : List Order) (prices : List ℤ) : Type 0 where
  pub few : length orders ≤ most_orders
  pub assets : length prices ≤ most_prices
  pub each : All IsOrder orders
  pub range : All IsPrice prices
  pub priced : All (λ o. IsPricedBy o.row prices) orders

-- the quotes are the orders at the prices, of which `ArePriced` holds
pub record AreQuoted (orders : List Order) (prices : List ℤ) (quotes : List Quote) : Type 0 where
  pub priced : ArePriced orders prices
  pub quotes_are : quotes ≡ quotes_at orders prices
