-- What holds at even prices.
use Rattle.std.specs.Prelude.{◌≡◌, ◌≢◌, ◌⊎◌, ◌↔◌, ℕ, ◌+◌, ◌-◌, ◌*◌, ◌^◌, ◌<◌, ◌≤◌, ℤ, pos, ◌+ℤ◌, ◌≤ℤ◌, unsigned_abs, List, [], ◌∷◌, length, map, slice_set, All, Bool, true, false}
use Rattle.std.specs.List.{filter, sum_by, range_with_len}
use Rattle.weight_rows.specs.Rows.{weight_in, price_of, IsPricedBy}
use Rattle.demand_curve.specs.Demand.{IsWithin, IsRounding, scaled_demand, span, floor_rate}
use Rattle.flow_orders.specs.Orders.{Order, IsOrder, terms_of}
use Rattle.flow_orders.specs.Excess.{price_for, steepness, residual_bound, low_part_in, high_part_in}
use Rattle.flow_orders.specs.Trades.{trades, residual}
use Rattle.flow_orders.specs.Outcomes.{Fill, Clearing, trades_of}
use Rattle.flow_orders.specs.Duals.{IsCommonPart, exact_dual}
use Rattle.excess_bounds.specs.declared.directions.Direction.{Direction}
use Rattle.excess_bounds.specs.Directions.{asked_towards, price_towards}
use Rattle.excess_bounds.specs.Ends.{IsEnd}
use Rattle.even_prices.specs.Even.{even_parts, IsEven, AreEven, is_too_low, is_too_high, is_uneven}
use Rattle.even_prices.specs.Directions.{IsUnevenTowards}
use Rattle.even_prices.specs.Active.{IsActive, active_bound, AreWithinAGrain, IsSteady}

-- one rate for each order, which is a rounding of the order's demand at these prices
pub record AreRounded (orders : List Order) (prices : List ℤ) (rates : List ℕ) : Type 0 where
  pub one_each : length rates ≡ length orders
  pub roundings : All (λ t. IsRounding (terms_of t.order) t.traded (price_for prices t.order)) (trades orders rates)

-- the imbalance of an even asset is at most its bound by active legs, whatever way demands are rounded
abbrev pub EvenResidualsAreBounded : Type 0
EvenResidualsAreBounded = (orders : List Order) (prices : List ℤ) (rates : List ℕ) (asset : ℕ)
    → All IsOrder orders → asset < length prices → AreRounded orders prices rates → IsEven orders prices asset
    → unsigned_abs (residual (trades orders rates) asset) ≤ active_bound orders prices asset

-- what is promised of imbalances within their tolerances holds at even prices
pub record ActiveBoundsAreWithinTolerances : Type 0 where
  -- the bound by active legs is at most the tolerance of the asset
  pub bound : (orders : List Order) (prices : List ℤ) (asset : ℕ) → active_bound orders prices asset ≤ residual_bound orders asset
  -- so each imbalance is within its tolerance, whatever way demands are rounded
  pub residuals : (orders : List Order) (prices : List ℤ) (rates : List ℕ) → All IsOrder orders → AreRounded orders prices rates → AreEven orders prices
      → (asset : ℕ) → asset < length prices → unsigned_abs (residual (trades orders rates) asset) ≤ residual_bound orders asset
  -- and of a clearing at even prices with one price each, and a rate under each number that is a rounding, the imbalances are as bounded as
  -- those of an admissible one
  pub clearings : (orders : List Order) (start : List ℤ) (c : Clearing) → All IsOrder orders
      → length c.prices ≡ length start → map (λ (f : Fill). f.order) c.fills ≡ map (λ (o : Order). o.number) orders
      → All (λ t. IsRounding (terms_of t.order) t.traded (price_for c.prices t.order)) (trades_of orders c.fills) → AreEven orders c.prices
      → (asset : ℕ) → asset < length start → unsigned_abs (residual (trades_of orders c.fills) asset) ≤ residual_bound orders asset

-- an order whose demand is the same at all prices within a grain widens nobody's residual
pub record SteadyOrdersWidenNothing : Type 0 where
  -- each order that isn't active is one
  pub inactive : (o : Order) (prices : List ℤ) → IsOrder o → ¬ IsActive o prices → IsSteady o prices
  -- at all prices within a grain it adds one number to the low and to the high excess of an asset, in any parts
  pub one_part : (parts : ℕ) (o : Order) (prices : List ℤ) (asset : ℕ) → IsOrder o → asset < length prices → IsSteady o prices
      → (z : ℤ) × ((others : List ℤ) → AreWithinAGrain prices others
      → (low_part_in parts (weight_in o.row asset) (terms_of o) (price_for others o) ≡ z) × (high_part_in parts (weight_in o.row asset) (terms_of o) (price_for others o) ≡ z))
  -- the imbalance of an even asset is at most the bound by the legs of all other orders, whatever way demands are rounded
  pub uncounted : (counts : Order → Bool) (orders : List Order) (prices : List ℤ) (rates : List ℕ) (asset : ℕ)
      → All IsOrder orders → asset < length prices → AreRounded orders prices rates → IsEven orders prices asset
      → All (λ o. counts o ≡ false → IsSteady o prices) orders
      → unsigned_abs (residual (trades orders rates) asset) ≤ residual_bound (filter counts orders) asset

-- the demand of an order is less than 1/256 of a unit
abbrev pub IsLittle : Order → List ℤ → Type 0
IsLittle o prices = even_parts * scaled_demand (terms_of o) (price_for prices o) < span (terms_of o)

-- nobody sells an asset, or nobody buys it
abbrev pub IsOneSided : List Order → ℕ → Type 0
IsOneSided orders asset = All (λ o. pos 0 ≤ℤ weight_in o.row asset) orders ⊎ All (λ o. weight_in o.row asset ≤ℤ pos 0) orders

-- the sum of the absolute imbalances of n assets, if an order trades x units and no other order trades
abbrev pub left_alone : ℕ → Order → ℕ → ℕ
left_alone n o x = sum_by (λ asset. unsigned_abs (residual (trades (o ∷ []) (x ∷ [])) asset)) (range_with_len 0 n)

-- an order that has nobody to trade with: its demand is less than 1/256 of a unit, so it is 0 if it is rounded down; no rounding of it is
-- above 1; and a rate that leaves no larger sum of absolute imbalances than the demand rounded down is 0
pub record TradesNothing (o : Order) (prices : List ℤ) : Type 0 where
  pub little : IsLittle o prices
  pub rounded_down : floor_rate (terms_of o) (price_for prices o) ≡ 0
  pub rounded : (x : ℕ) → IsRounding (terms_of o) x (price_for prices o) → x ≤ 1
  pub nothing : (x : ℕ) → left_alone (length prices) o x ≤ left_alone (length prices) o (floor_rate (terms_of o) (price_for prices o)) → x ≡ 0

-- who has nobody to trade with asks for less than 1/256 of a unit, whatever weights and rate
pub record NobodyTradesAlone : Type 0 where
  -- of an even asset that nobody sells, or that nobody buys, no order demands 1/256 of a unit
  pub one_sided : (orders : List Order) (prices : List ℤ) (asset : ℕ)
      → All IsOrder orders → IsEven orders prices asset → IsOneSided orders asset → All (λ o. weight_in o.row asset ≢ pos 0 → IsLittle o prices) orders
  -- one unit more of any order only adds to the imbalance of such an asset, whatever the rates
  pub adds : (orders : List Order) (rates : List ℕ) (asset : ℕ) → IsOneSided orders asset
      → All (λ o. unsigned_abs (residual (trades orders rates) asset +ℤ weight_in o.row asset) ≡ unsigned_abs (residual (trades orders rates) asset) + unsigned_abs (weight_in o.row asset)) orders
  -- an order that is alone at even prices trades nothing, unless its rate is chosen to leave a larger imbalance
  pub alone : (o : Order) (prices : List ℤ) → IsOrder o → IsPricedBy o.row prices → AreEven (o ∷ []) prices → TradesNothing o prices

-- the tests tell which assets are even, and no price is both too low and too high
pub record UnevenIsTested : Type 0 where
  pub even : (orders : List Order) (prices : List ℤ) (asset : ℕ) → (is_uneven orders prices asset ≡ false) ↔ IsEven orders prices asset
  pub one_way : (orders : List Order) (prices : List ℤ) (asset : ℕ) → All IsOrder orders → is_too_low orders prices asset ≡ true → is_too_high orders prices asset ≡ false

-- the prices after the price of an asset moved by an amount in a direction
abbrev pub moved_by : Direction → List ℤ → ℕ → ℕ → List ℤ
moved_by direction prices asset amount = slice_set prices asset (price_towards direction (price_of prices asset) amount)

-- a move of an asset that isn't even makes it even, unless its reach ends it: a price that is too low rises to the first grain at which the
-- low excess isn't above 0, and one that is too high falls to the first at which the high excess isn't below 0
abbrev pub MovesMakeEven : Type 0
MovesMakeEven = (orders : List Order) (prices : List ℤ) (asset reach amount : ℕ) (direction : Direction)
    → asset < length prices → IsUnevenTowards orders prices asset direction
    → IsEnd (asked_towards direction even_parts orders prices asset) (pos 0) reach amount → amount < reach
    → IsEven orders (moved_by direction prices asset amount) asset

-- each grain of a move but the last lowers the exact dual value by 1/256 of a grain or more, and the last one raises it by at most half of the
-- slope bound, if it does
abbrev pub EvenMovesLowerTheDual : Type 0
EvenMovesLowerTheDual = (N : ℕ) (orders : List Order) (prices : List ℤ) (asset reach amount : ℕ) (direction : Direction)
    → All IsOrder orders → IsCommonPart N orders → asset < length prices → IsUnevenTowards orders prices asset direction
    → IsEnd (asked_towards direction even_parts orders prices asset) (pos 0) reach amount
    → (even_parts * exact_dual N orders (moved_by direction prices asset (amount - 1)) + N * (amount - 1) ≤ even_parts * exact_dual N orders prices)
    × (2 * exact_dual N orders (moved_by direction prices asset amount) ≤ 2 * exact_dual N orders (moved_by direction prices asset (amount - 1)) + N * steepness orders asset)

-- in a book in which each order names one asset, one move of each asset that isn't even makes all prices even
pub record SinglesEndEven : Type 0 where
  -- from a price within 2^60, a move whose reach is at least 2^61 makes its asset even, at a price within 2^60
  pub ends : (orders : List Order) (prices : List ℤ) (asset reach amount : ℕ) (direction : Direction)
      → All IsOrder orders → All (λ o. length o.row ≡ 1) orders → asset < length prices → IsWithin (2 ^ 60) (price_of prices asset) → 2 ^ 61 ≤ reach
      → IsUnevenTowards orders prices asset direction → IsEnd (asked_towards direction even_parts orders prices asset) (pos 0) reach amount
      → IsEven orders (moved_by direction prices asset amount) asset
      × IsWithin (2 ^ 60) (price_towards direction (price_of prices asset) amount)
  -- whether an asset is even depends on no other price
  pub own : (orders : List Order) (prices others : List ℤ) (asset : ℕ)
      → All (λ o. length o.row ≡ 1) orders → asset < length prices → asset < length others → price_of others asset ≡ price_of prices asset
      → IsEven orders prices asset → IsEven orders others asset
