-- Which part of a published clearing is the first that is wrong.
use Rattle.std.specs.Prelude.{◌≡◌, ℕ, ◌<◌, ◌≤◌, ℤ, unsigned_abs, List, map, length, slice_get, IfSome}
use Rattle.weight_rows.specs.Rows.{IsPrice, price_of}
use Rattle.demand_curve.specs.Demand.{IsRounding}
use Rattle.flow_orders.specs.Orders.{Order, terms_of}
use Rattle.flow_orders.specs.Excess.{price_for, residual_bound}
use Rattle.flow_orders.specs.Trades.{residual}
use Rattle.flow_orders.specs.Outcomes.{Clearing, IsUnnamed, trades_of, gap_of}
use Rattle.flow_orders.specs.Residuals.{residual_in}
use Rattle.batch_outcome.specs.Parts.{numbers_in}
use Rattle.batch_certificate.specs.declared.verdict.Verdict.{Verdict}
use Rattle.batch_certificate.specs.declared.verdict.Verdict.TheVariants.{Right, Count, Price, Rate, Residual, Gap}

-- something holds at each of the places 0 to n - 1
abbrev pub HoldsBelow : (ℕ → Type 0) → ℕ → Type 0
HoldsBelow Holds n = (k : ℕ) → k < n → Holds k

-- k is the first of the places 0 to n - 1 at which something doesn't hold
pub record IsFirstWrong (Holds : ℕ → Type 0) (n k : ℕ) : Type 0 where
  pub inside : k < n
  pub before : HoldsBelow Holds k
  pub wrong : ¬ Holds k

-- a clearing has one price and one residual for each start price, and one rate for each order, under its number
pub record AreCounted (orders : List Order) (start : List ℤ) (c : Clearing) : Type 0 where
  pub prices : length c.prices ≡ length start
  pub residuals : length c.residuals ≡ length start
  pub numbers : numbers_in c ≡ map (λ (o : Order). o.number) orders

-- the price of an asset is in range, and is the start price if no order names the asset
pub record IsPriceRight (orders : List Order) (start : List ℤ) (c : Clearing) (asset : ℕ) : Type 0 where
  pub range : IsPrice (price_of c.prices asset)
  pub unnamed : IsUnnamed orders asset → price_of c.prices asset ≡ price_of start asset

-- the rate at a place is a rounding of its order's demand at the prices
abbrev pub IsRateRight : List Order → Clearing → ℕ → Type 0
IsRateRight orders c place =
    IfSome (slice_get (trades_of orders c.fills) place) (λ t. IsRounding (terms_of t.order) t.traded (price_for c.prices t.order))

-- the published residual of an asset is its imbalance at these rates, and within its tolerance
pub record IsResidualRight (orders : List Order) (c : Clearing) (asset : ℕ) : Type 0 where
  pub left : residual_in c.residuals asset ≡ residual (trades_of orders c.fills) asset
  pub bounded : unsigned_abs (residual (trades_of orders c.fills) asset) ≤ residual_bound orders asset

-- the published gap is that of the prices and rates
abbrev pub IsGapRight : List Order → Clearing → Type 0
IsGapRight orders c = c.gap ≡ gap_of c.prices (trades_of orders c.fills)

-- a clearing is right up to its prices
pub record HasRightPrices (orders : List Order) (start : List ℤ) (c : Clearing) : Type 0 where
  pub counted : AreCounted orders start c
  pub prices : HoldsBelow (IsPriceRight orders start c) (length start)

-- a clearing is right up to its rates
pub record HasRightRates (orders : List Order) (start : List ℤ) (c : Clearing) : Type 0 where
  pub priced : HasRightPrices orders start c
  pub rates : HoldsBelow (IsRateRight orders c) (length orders)

-- a clearing is right up to its residuals
pub record HasRightResiduals (orders : List Order) (start : List ℤ) (c : Clearing) : Type 0 where
  pub rated : HasRightRates orders start c
  pub residuals : HoldsBelow (IsResidualRight orders c) (length start)

-- the verdict on a clearing of these orders: the part that it names is the first that is wrong; `Right` if none is
abbrev pub IsVerdict : List Order → List ℤ → Clearing → Verdict → Type 0
IsVerdict orders start c Count = ¬ AreCounted orders start c
IsVerdict orders start c (Price asset) = AreCounted orders start c × IsFirstWrong (IsPriceRight orders start c) (length start) asset
IsVerdict orders start c (Rate place) = HasRightPrices orders start c × IsFirstWrong (IsRateRight orders c) (length orders) place
IsVerdict orders start c (Residual asset) = HasRightRates orders start c × IsFirstWrong (IsResidualRight orders c) (length start) asset
IsVerdict orders start c Gap = HasRightResiduals orders start c × (¬ IsGapRight orders c)
IsVerdict orders start c Right = HasRightResiduals orders start c × IsGapRight orders c
