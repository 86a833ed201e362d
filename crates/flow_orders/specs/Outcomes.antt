-- What is published of a batch, and which outcomes are admissible.
use Rattle.std.specs.Prelude.{◌≡◌, ℕ, ◌<◌, ◌≤◌, ◌^◌, ◌==◌, Bool, false, ℤ, pos, ◌-ℤ◌, unsigned_abs, List, map, length, All, Contains}
use Rattle.std.specs.List.{range_with_len, sum_by, list_all}
use Rattle.weight_rows.specs.Rows.{IsPrice, assets_of, price_of}
use Rattle.demand_curve.specs.Demand.{IsWithin, IsRounding, loss, dual_floor}
use Rattle.flow_orders.specs.Orders.{Order, terms_of}
use Rattle.flow_orders.specs.declared.search.Search.{Search}
use Rattle.flow_orders.specs.Excess.{price_for, residual_bound, is_unsettled}
use Rattle.flow_orders.specs.Moves.{moved, walk_reach}
use Rattle.flow_orders.specs.Walks.{walk_end, IsLegal, AreSettled}
use Rattle.flow_orders.specs.Trades.{Trade, trades, residual, residual_cost}

-- the rate that is published for the order of this number
pub record Fill : Type 0 where
  pub order : ℕ
  pub rate : ℕ

-- what is published of a batch that cleared: a price and an imbalance for each asset, a rate for each live order, and the gap
pub record Clearing : Type 0 where
  pub prices : List ℤ
  pub fills : List Fill
  pub residuals : List ℤ
  pub gap : ℤ

-- what is published of a batch that was skipped: the assets that were moved, in turn, and the dual value at the start and at the end
pub record Skipping : Type 0 where
  pub trace : List ℕ
  pub start_dual : ℤ
  pub end_dual : ℤ

-- what is published of a batch: it clears, or it is skipped
pub data Outcome : Type 0 where
  Cleared : Clearing → Outcome
  Skipped : Skipping → Outcome

-- a rule by which batches may end: a relation of how prices are searched for, the orders, the start prices, the budget and the outcome
abbrev pub BatchRule : Type 1
BatchRule = Search → List Order → List ℤ → ℕ → Outcome → Type 0

-- what the orders trade at the published rates
abbrev pub trades_of : List Order → List Fill → List Trade
trades_of orders fills = trades orders (map (λ (f : Fill). f.rate) fills)

-- the published rate of a trade
abbrev pub fill_of : Trade → Fill
fill_of t = record { order = t.order.number; rate = t.traded }

-- the imbalances of assets 0 to n - 1, in units
abbrev pub residuals_of : ℕ → List Trade → List ℤ
residuals_of n ts = map (residual ts) (range_with_len 0 n)

-- the gap, in grains: what all rates lose, less what the imbalances cost
abbrev pub gap_of : List ℤ → List Trade → ℤ
gap_of prices ts = pos (sum_by (λ t. loss (terms_of t.order) t.traded (price_for prices t.order)) ts) -ℤ residual_cost prices ts

-- the dual value of a book, in grains: each order's is rounded down
abbrev pub dual_of : List Order → List ℤ → ℕ
dual_of orders prices = sum_by (λ o. dual_floor (terms_of o) (price_for prices o)) orders

-- some order names two assets or more
abbrev pub IsWide : List Order → Type 0
IsWide orders = (o : Order) × Contains orders o × (2 ≤ length o.row)

-- the highest budget of a batch, in moves
abbrev pub most_budget : ℕ
most_budget = 65536

-- the prices after a move of an asset in a walk
abbrev pub step_of : ℕ → List Order → List ℤ → ℕ → List ℤ
step_of parts orders prices asset = moved parts orders walk_reach prices asset

-- a walk from these prices is valid: each asset on it has a price, and is unsettled when it is moved
abbrev pub IsLegalFrom : ℕ → List Order → List ℤ → List ℕ → Type 0
IsLegalFrom parts orders start walk = IsLegal (length start) (is_unsettled orders) (step_of parts orders) start walk

-- the prices at the end of a walk
abbrev pub end_of : ℕ → List Order → List ℤ → List ℕ → List ℤ
end_of parts orders start walk = walk_end (step_of parts orders) start walk

-- all assets are settled at the end of a walk
abbrev pub EndsSettled : ℕ → List Order → List ℤ → List ℕ → Type 0
EndsSettled parts orders start walk = AreSettled (length start) (is_unsettled orders) (end_of parts orders start walk)

-- what is published of a skip after this walk: the walk, and the dual value at its start and at its end
abbrev pub skipping_at : ℕ → List Order → List ℤ → List ℕ → Skipping
skipping_at parts orders start walk = record { trace = walk; start_dual = pos (dual_of orders start); end_dual = pos (dual_of orders (end_of parts orders start walk)) }

-- no order has a leg of this asset
abbrev pub IsUnnamed : List Order → ℕ → Type 0
IsUnnamed orders asset = All (λ o. ¬ Contains (assets_of o.row) asset) orders

-- A clearing of these orders is admissible: at its prices, which are free within their range, each rate rounds its order's demand, each
-- imbalance is within its tolerance, and the gap is that of prices and rates; an asset that no order names keeps its start price.
pub record IsAdmissibleClearing (orders : List Order) (start : List ℤ) (c : Clearing) : Type 0 where
  pub one_price_each : length c.prices ≡ length start
  pub small : All IsPrice c.prices
  pub unnamed : (asset : ℕ) → asset < length start → IsUnnamed orders asset → price_of c.prices asset ≡ price_of start asset
  pub numbers : map (λ (f : Fill). f.order) c.fills ≡ map (λ (o : Order). o.number) orders
  pub roundings : All (λ t. IsRounding (terms_of t.order) t.traded (price_for c.prices t.order)) (trades_of orders c.fills)
  pub residual_each : c.residuals ≡ residuals_of (length start) (trades_of orders c.fills)
  pub bounded : (asset : ℕ) → asset < length start → unsigned_abs (residual (trades_of orders c.fills) asset) ≤ residual_bound orders asset
  pub gap_is : c.gap ≡ gap_of c.prices (trades_of orders c.fills)

-- A skip is admissible: a valid walk of the whole budget that leaves some asset unsettled, in a book with an order for two assets or more.
pub record IsAdmissibleSkip (parts : ℕ) (orders : List Order) (start : List ℤ) (budget : ℕ) (s : Skipping) : Type 0 where
  pub wide : IsWide orders
  pub legal : IsLegalFrom parts orders start s.trace
  pub whole : length s.trace ≡ budget
  pub unsettled : ¬ EndsSettled parts orders start s.trace
  pub duals : s ≡ skipping_at parts orders start s.trace

-- an outcome of a batch is admissible, given how prices are searched for, the orders, the start prices and the budget
abbrev pub IsAdmissibleOutcome : BatchRule
IsAdmissibleOutcome search orders start budget (Cleared c) = IsAdmissibleClearing orders start c
IsAdmissibleOutcome search orders start budget (Skipped s) = IsAdmissibleSkip search.parts orders start budget s

-- what is published of these trades at prices of n assets
abbrev pub clearing_at : ℕ → List ℤ → List Trade → Clearing
clearing_at n prices ts = record { prices = prices; fills = map fill_of ts; residuals = residuals_of n ts; gap = gap_of prices ts }

-- whether every order is for one asset
abbrev pub are_single : List Order → Bool
are_single orders = list_all (λ o. length o.row == 1) orders

-- a batch clears at prices within 2^60 grains of 0, and an asset that was settled at the start keeps its price
abbrev pub ClearsNear : List Order → List ℤ → Outcome → Type 0
ClearsNear orders start (Cleared c) =
    All (IsWithin (2 ^ 60)) c.prices × ((asset : ℕ) → is_unsettled orders start asset ≡ false → price_of c.prices asset ≡ price_of start asset)
ClearsNear orders start (Skipped s) = ⊥
