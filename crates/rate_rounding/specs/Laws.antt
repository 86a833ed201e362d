-- What holds of demands rounded down.
use Rattle.std.specs.Prelude.{◌≡◌, ◌≤◌, ℤ, List, length, All}
use Rattle.demand_curve.specs.Demand.{IsRounding}
use Rattle.flow_orders.specs.Orders.{Order, IsOrder, terms_of}
use Rattle.flow_orders.specs.Excess.{price_for}
use Rattle.flow_orders.specs.Trades.{trades}
use Rattle.canonical_rule.specs.Canonical.{floor_rates}

-- rounding down gives one rate for each order, which is a rounding of the order's demand and at most its batch maximum
pub record AreRoundedDown (orders : List Order) (prices : List ℤ) : Type 0 where
  pub one_each : length (floor_rates orders prices) ≡ length orders
  pub roundings : All (λ t. IsRounding (terms_of t.order) t.traded (price_for prices t.order)) (trades orders (floor_rates orders prices))
  pub within_rooms : All (λ t. t.traded ≤ (terms_of t.order).room) (trades orders (floor_rates orders prices))

-- at all prices, demands rounded down are roundings
abbrev pub FloorsAreRoundings : Type 0
FloorsAreRoundings = (orders : List Order) (prices : List ℤ) → All IsOrder orders → AreRoundedDown orders prices
