-- The orders that count for the bound of a residual at even prices: those whose demand a grain of each price may change.
use Rattle.std.specs.Prelude.{◌≡◌, ℕ, ◌≤◌, ℤ, pos, ◌+ℤ◌, ◌-ℤ◌, int_lt, unsigned_abs, List, length, Bool, ◌&&◌, true}
use Rattle.std.specs.List.{sum_by, filter}
use Rattle.weight_rows.specs.declared.entries.Entry.{Entry}
use Rattle.weight_rows.specs.Rows.{price_of}
use Rattle.demand_curve.specs.Demand.{scaled_demand}
use Rattle.flow_orders.specs.Orders.{Order, terms_of}
use Rattle.flow_orders.specs.Excess.{price_for, residual_bound}

-- the sum of an order's absolute weights: if each price moves by a grain, the price of its portfolio moves by at most so many grains
abbrev pub weight_sum : Order → ℕ
weight_sum o = sum_by (λ (e : Entry). unsigned_abs e.weight) o.row

-- whether an order is active: the price of its portfolio is above its low limit less that sum, and below its high limit plus it
abbrev pub is_active : List ℤ → Order → Bool
is_active prices o = int_lt (o.low -ℤ pos (weight_sum o)) (price_for prices o) && int_lt (price_for prices o) (o.high +ℤ pos (weight_sum o))

-- an order is active at these prices
abbrev pub IsActive : Order → List ℤ → Type 0
IsActive o prices = is_active prices o ≡ true

-- the orders of a book that are active
abbrev pub active_orders : List Order → List ℤ → List Order
active_orders orders prices = filter (is_active prices) orders

-- the bound of an asset's imbalance at even prices, in units: the sum of the absolute weights of its active legs, plus the sum of their
-- squares divided by 256 and rounded up
abbrev pub active_bound : List Order → List ℤ → ℕ → ℕ
active_bound orders prices asset = residual_bound (active_orders orders prices) asset

-- each price is at most a grain from the same asset's price in the other list
pub record AreWithinAGrain (prices others : List ℤ) : Type 0 where
  pub one_each : length others ≡ length prices
  pub near : (asset : ℕ) → unsigned_abs (price_of others asset -ℤ price_of prices asset) ≤ 1

-- an order is steady: its demand is the same at all prices within a grain of these
abbrev pub IsSteady : Order → List ℤ → Type 0
IsSteady o prices = (others : List ℤ) → AreWithinAGrain prices others → scaled_demand (terms_of o) (price_for others o) ≡ scaled_demand (terms_of o) (price_for prices o)
