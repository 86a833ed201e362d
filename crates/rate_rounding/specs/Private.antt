-- Definitions for private functions.
use Rattle.std.specs.Prelude.{◌≡◌, ℕ, ◌+◌, Bool, true, false, ℤ, List, length}
use Rattle.weight_rows.specs.Rows.{weight_in}
use Rattle.demand_curve.specs.Demand.{ceil_rate}
use Rattle.flow_orders.specs.Orders.{Order, terms_of}
use Rattle.flow_orders.specs.Excess.{price_for}
use Rattle.canonical_rule.specs.Choice.{left_by, is_raised}
use Rattle.flow_orders.specs.Residuals.{residual_in, IsTradeAdded}
use Rattle.canonical_rule.specs.Canonical.{floor_at, is_fraction_at, floor_rates}

-- the demand of an order at prices, rounded up
abbrev pub ceil_at : List ℤ → Order → ℕ
ceil_at prices o = ceil_rate (terms_of o) (price_for prices o)

-- the imbalance of an asset with all demands rounded down
abbrev pub left_by_floors : List Order → List ℤ → ℕ → ℤ
left_by_floors orders prices asset = left_by (λ o asset. weight_in o.row asset) orders (floor_rates orders prices) asset

-- whether an order is rounded up by the rule of choice, given the imbalances before its turn
abbrev pub is_raised_at : List ℤ → List ℤ → Order → Bool
is_raised_at prices residuals o = is_raised (length prices) (λ o asset. weight_in o.row asset) (floor_at prices) (is_fraction_at prices) (residual_in residuals) o

-- an order is rounded up and one unit of its portfolio added to the imbalances, or it is rounded down and they stay
abbrev pub IsChosenBy : Bool → List ℤ → Order → ℕ → List ℤ → List ℤ → Type 0
IsChosenBy true prices o rate old new = (rate ≡ floor_at prices o + 1) × IsTradeAdded o.row 1 old new
IsChosenBy false prices o rate old new = (rate ≡ floor_at prices o) × (new ≡ old)

-- an order's rate is chosen by the rule, and the imbalances follow
abbrev pub IsChosen : List ℤ → Order → ℕ → List ℤ → List ℤ → Type 0
IsChosen prices o rate old new = IsChosenBy (is_raised_at prices old o) prices o rate old new
