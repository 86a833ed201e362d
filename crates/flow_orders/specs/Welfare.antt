-- The welfare of a book's rates, balanced rates, and rates that are optimal within a gap.
use Rattle.std.specs.Prelude.{◌≡◌, ℕ, ◌*◌, ◌/◌, ◌≤◌, ℤ, pos, ◌+ℤ◌, ◌*ℤ◌, ◌≤ℤ◌, List, length, All}
use Rattle.list_sums.specs.Sums.{int_sum_by}
use Rattle.demand_curve.specs.Welfare.{scaled_welfare}
use Rattle.flow_orders.specs.Orders.{Order, terms_of}
use Rattle.flow_orders.specs.Trades.{Trade, trades, residual}

-- a number that twice the rate of every order divides
abbrev pub IsCommon : ℕ → List Order → Type 0
IsCommon M orders = (1 ≤ M) × All (λ o. M / (2 * o.rate) * (2 * o.rate) ≡ M) orders

-- the welfare of the rates traded / K of all orders, in parts of 1/(M * K * K) of a grain
abbrev pub welfare : ℕ → ℕ → List Trade → ℤ
welfare M K ts = int_sum_by (λ t. pos (M / (2 * t.order.rate)) *ℤ scaled_welfare (terms_of t.order) t.traded K) ts

-- the fractions n / K are balanced rates: each within its order's batch maximum, and no asset has an imbalance
pub record IsBalanced (K : ℕ) (orders : List Order) (ns : List ℕ) : Type 0 where
  pub some : 1 ≤ K
  pub one_each : length ns ≡ length orders
  pub within : All (λ t. t.traded ≤ K * (terms_of t.order).room) (trades orders ns)
  pub nothing_left : (asset : ℕ) → residual (trades orders ns) asset ≡ pos 0

-- there is one rate for each order, and no balanced rates have a welfare above that of these rates and the gap
pub record IsOptimalWithin (gap : ℤ) (orders : List Order) (rates : List ℕ) : Type 0 where
  pub one_each : length rates ≡ length orders
  pub best : (M K : ℕ) (ns : List ℕ) → IsCommon M orders → IsBalanced K orders ns
      → welfare M K (trades orders ns) ≤ℤ (pos (K * K) *ℤ (welfare M 1 (trades orders rates) +ℤ pos M *ℤ gap))
