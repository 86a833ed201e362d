-- What holds of books of orders, walks and outcomes.
use Rattle.std.specs.Prelude.{◌≡◌, ℕ, ℤ, pos, ◌+◌, ◌*◌, ◌/◌, ◌≤◌, ◌<◌, ◌+ℤ◌, ◌-ℤ◌, ◌*ℤ◌, ◌<ℤ◌, ◌≤ℤ◌, unsigned_abs, true, false, List, length, map, All}
use Rattle.std.specs.List.{range_with_len, sum_by}
use Rattle.list_sums.specs.Sums.{int_sum_by}
use Rattle.weight_rows.specs.Rows.{price_of, IsPricedBy}
use Rattle.demand_curve.specs.Demand.{span}
use Rattle.std.specs.Int.{div_ceil}
use Rattle.flow_orders.specs.Orders.{Order, IsOrder, terms_of}
use Rattle.flow_orders.specs.Excess.{low_excess_in, high_excess_in, is_unsettled, residual_bound}
use Rattle.flow_orders.specs.WholeUnits.{low_excess, high_excess}
use Rattle.flow_orders.specs.Moves.{moved, amount_of}
use Rattle.flow_orders.specs.Trades.{trades}
use Rattle.flow_orders.specs.Outcomes.{Fill, Clearing, Skipping, dual_of, IsLegalFrom, end_of, IsAdmissibleClearing, IsAdmissibleSkip}
use Rattle.flow_orders.specs.Welfare.{IsCommon, welfare, IsBalanced, IsOptimalWithin}
use Rattle.flow_orders.specs.Duals.{IsCommonPart, exact_dual, movement_of}

-- a move of an unsettled asset lowers the exact dual value by at least its amount
abbrev pub MovesLowerTheDual : Type 0
MovesLowerTheDual = (parts : ℕ) → 1 ≤ parts → (N : ℕ) (orders : List Order) (reach : ℕ) (prices : List ℤ) (asset : ℕ)
    → All IsOrder orders → IsCommonPart N orders → 1 ≤ reach → asset < length prices → is_unsettled orders prices asset ≡ true
    → exact_dual N orders (moved parts orders reach prices asset) + N * amount_of parts orders reach prices asset ≤ exact_dual N orders prices

-- a move of an unsettled asset that wasn't ended by its reach leaves the asset settled
abbrev pub MovesWithinReachSettle : Type 0
MovesWithinReachSettle = (parts : ℕ) → 1 ≤ parts → (orders : List Order) (reach : ℕ) (prices : List ℤ) (asset : ℕ)
    → All IsOrder orders → asset < length prices → is_unsettled orders prices asset ≡ true → amount_of parts orders reach prices asset < reach
    → is_unsettled orders (moved parts orders reach prices asset) asset ≡ false

-- the excess of an asset in parts of a unit is within its excess in whole units
pub record IsNarrowed (parts : ℕ) (orders : List Order) (prices : List ℤ) (asset : ℕ) : Type 0 where
  pub low : (pos parts *ℤ low_excess orders prices asset) ≤ℤ low_excess_in parts orders prices asset
  pub between : low_excess_in parts orders prices asset ≤ℤ high_excess_in parts orders prices asset
  pub high : high_excess_in parts orders prices asset ≤ℤ (pos parts *ℤ high_excess orders prices asset)

-- at all prices, excess in parts of a unit is within excess in whole units
abbrev pub PartsNarrowExcess : Type 0
PartsNarrowExcess = (parts : ℕ) (orders : List Order) (prices : List ℤ) (asset : ℕ) → All IsOrder orders → IsNarrowed parts orders prices asset

-- a valid walk lowers the exact dual value by at least its movement, which is at least a grain for each move; so its movement is bounded
pub record WalksLowerTheDual : Type 0 where
  pub common : (orders : List Order) → All IsOrder orders → (N : ℕ) × IsCommonPart N orders
  pub exact : (parts : ℕ) → 1 ≤ parts → (N : ℕ) (orders : List Order) (start : List ℤ) (walk : List ℕ)
      → All IsOrder orders → IsCommonPart N orders → IsLegalFrom parts orders start walk
      → exact_dual N orders (end_of parts orders start walk) + N * movement_of parts orders start walk ≤ exact_dual N orders start
  pub moves : (parts : ℕ) (orders : List Order) (start : List ℤ) (walk : List ℕ) → IsLegalFrom parts orders start walk → length walk ≤ movement_of parts orders start walk
  pub bounded : (parts : ℕ) → 1 ≤ parts → (orders : List Order) (start : List ℤ) (walk : List ℕ) → All IsOrder orders → IsLegalFrom parts orders start walk
      → movement_of parts orders start walk ≤ dual_of orders start + length orders

-- the moves of an admissible skip lower the dual value by more than their movement less the number of orders, and each of the budget's
-- moves is by at least a grain
abbrev pub AdmissibleSkipsLowerTheDual : Type 0
AdmissibleSkipsLowerTheDual = (parts : ℕ) → 1 ≤ parts → (orders : List Order) (start : List ℤ) (budget : ℕ) (s : Skipping) → All IsOrder orders → IsAdmissibleSkip parts orders start budget s
    → ((s.end_dual +ℤ pos (movement_of parts orders start s.trace)) <ℤ (s.start_dual +ℤ pos (length orders))) × (budget ≤ movement_of parts orders start s.trace)

-- no balanced rates beat the rates of an admissible clearing by more than its gap
abbrev pub AdmissibleClearingsAreOptimal : Type 0
AdmissibleClearingsAreOptimal = (orders : List Order) (start : List ℤ) (c : Clearing) → All IsOrder orders → All (λ o. IsPricedBy o.row start) orders
    → IsAdmissibleClearing orders start c → IsOptimalWithin c.gap orders (map (λ (f : Fill). f.rate) c.fills)

-- the gap of an admissible clearing is at most what all roundings can lose and what imbalances within their tolerances can cost
abbrev pub GapsAreBounded : Type 0
GapsAreBounded = (orders : List Order) (start : List ℤ) (c : Clearing) → All IsOrder orders → IsAdmissibleClearing orders start c
    → c.gap ≤ℤ pos (sum_by (λ o. div_ceil (span (terms_of o)) (2 * o.rate)) orders
    + sum_by (λ asset. unsigned_abs (price_of c.prices asset) * residual_bound orders asset) (range_with_len 0 (length c.prices)))

-- every book has a number that twice the rate of each order divides
abbrev pub CommonsExist : Type 0
CommonsExist = (orders : List Order) → All IsOrder orders → (M : ℕ) × IsCommon M orders

-- whole rates are worth the high limit for each unit, less span / (2 * rate) times the square of the rate; trading nothing is balanced
-- and worth nothing; equal fractions are balanced alike and worth the same
pub record WelfareIsAsSaid : Type 0 where
  pub whole : (M : ℕ) (orders : List Order) (rates : List ℕ) → IsCommon M orders → welfare M 1 (trades orders rates)
      ≡ int_sum_by (λ t. pos M *ℤ (pos t.traded *ℤ t.order.high) -ℤ pos (M / (2 * t.order.rate) * (span (terms_of t.order) * t.traded * t.traded))) (trades orders rates)
  pub none_balanced : (K : ℕ) (orders : List Order) → 1 ≤ K → IsBalanced K orders (map (λ o. 0) orders)
  pub none_worth : (M K : ℕ) (orders : List Order) → welfare M K (trades orders (map (λ o. 0) orders)) ≡ pos 0
  pub scaled_balanced : (k K : ℕ) (orders : List Order) (ns : List ℕ) → 1 ≤ k → IsBalanced K orders ns → IsBalanced (k * K) orders (map (λ n. k * n) ns)
  pub scaled_worth : (k M K : ℕ) (orders : List Order) (ns : List ℕ) → welfare M (k * K) (trades orders (map (λ n. k * n) ns)) ≡ pos (k * k) *ℤ welfare M K (trades orders ns)
