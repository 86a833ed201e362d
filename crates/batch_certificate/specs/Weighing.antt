-- Sums over the orders' weights while they are added up: one number for each asset.
use Rattle.std.specs.Prelude.{◌≡◌, ℕ, ◌+◌, ◌*◌, ◌<◌, ◌≤◌, ℤ, unsigned_abs, List, length, slice_index_or, All}
use Rattle.std.specs.List.{sum_by}
use Rattle.std.specs.Int.{div_ceil}
use Rattle.weight_rows.specs.declared.entries.Entry.{Entry}
use Rattle.weight_rows.specs.Rows.{IsPrice, weight_in, price_of}
use Rattle.flow_orders.specs.Orders.{Order}
use Rattle.flow_orders.specs.Outcomes.{Clearing}
use Rattle.flow_orders.specs.Residuals.{residual_in}

-- the number of an asset in a list with one for each
abbrev pub count_in : List ℕ → ℕ → ℕ
count_in counts asset = slice_index_or counts asset 0

-- each number is at most this
abbrev pub AreSmall : ℕ → List ℕ → Type 0
AreSmall most counts = (asset : ℕ) → count_in counts asset ≤ most

-- a list of n numbers, that of each asset as f gives it
pub record HasCounts (n : ℕ) (f : ℕ → ℕ) (counts : List ℕ) : Type 0 where
  pub count : length counts ≡ n
  pub each : (asset : ℕ) → asset < n → count_in counts asset ≡ f asset

-- each asset that a weight vector names has a number below n
abbrev pub IsWithinPlaces : ℕ → List Entry → Type 0
IsWithinPlaces n row = All (λ e. e.asset < n) row

-- the square of a weight
abbrev pub square : ℤ → ℕ
square weight = unsigned_abs weight * unsigned_abs weight

-- each number has grown by f of the asset's weight in a weight vector
abbrev pub HasGrownBy : (ℤ → ℕ) → List Entry → List ℕ → List ℕ → Type 0
HasGrownBy f row old new = HasCounts (length old) (λ asset. count_in old asset + f (weight_in row asset)) new

-- the sum of f of an asset's weight in each order
abbrev pub weighed : (ℤ → ℕ) → List Order → ℕ → ℕ
weighed f orders asset = sum_by (λ o. f (weight_in o.row asset)) orders

-- a price is in range, and is the start price if the asset's rounding bound is 0
abbrev pub IsKept : ℤ → List ℕ → List ℤ → ℕ → Type 0
IsKept price spreads start asset = IsPrice price × (count_in spreads asset ≡ 0 → price ≡ price_of start asset)

-- the price of an asset in a clearing is in range, and is the start price if the asset's rounding bound is 0
abbrev pub IsPriceKept : List ℕ → List ℤ → Clearing → ℕ → Type 0
IsPriceKept spreads start c asset = IsKept (price_of c.prices asset) spreads start asset

-- z is the imbalance of an asset, and within the tolerance that its rounding bound and its sum of squares give
abbrev pub IsWithinBound : ℤ → List ℤ → List ℕ → List ℕ → ℕ → Type 0
IsWithinBound z residuals spreads squares asset =
    (z ≡ residual_in residuals asset) × (unsigned_abs z ≤ count_in spreads asset + div_ceil (count_in squares asset) 256)

-- the residual of an asset in a clearing is its imbalance, and within the tolerance that its rounding bound and sum of squares give
abbrev pub IsResidualWithin : List ℤ → List ℕ → List ℕ → Clearing → ℕ → Type 0
IsResidualWithin residuals spreads squares c asset = IsWithinBound (residual_in c.residuals asset) residuals spreads squares asset
