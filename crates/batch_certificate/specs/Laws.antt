-- What holds of imbalances, gaps and verdicts.
use Rattle.std.specs.Prelude.{◌≡◌, ◌<◌, ◌≤◌, ◌↔◌, ℕ, ℤ, false, unsigned_abs, List, length, All}
use Rattle.demand_curve.specs.Demand.{IsRounding}
use Rattle.flow_orders.specs.Orders.{Order, IsOrder, terms_of}
use Rattle.flow_orders.specs.Excess.{price_for, residual_bound, is_unsettled}
use Rattle.flow_orders.specs.Trades.{trades, residual}
use Rattle.flow_orders.specs.Outcomes.{Clearing, IsAdmissibleClearing}
use Rattle.flow_orders.specs.Residuals.{residual_in}
use Rattle.batch_certificate.specs.declared.verdict.Verdict.{Verdict}
use Rattle.batch_certificate.specs.declared.verdict.Verdict.TheVariants.{Right}
use Rattle.batch_certificate.specs.Verdicts.{IsVerdict}

-- one rate for each order, which is a rounding of the order's demand at these prices
pub record AreRoundings (orders : List Order) (prices : List ℤ) (rates : List ℕ) : Type 0 where
  pub one_each : length rates ≡ length orders
  pub roundings : All (λ t. IsRounding (terms_of t.order) t.traded (price_for prices t.order)) (trades orders rates)

-- if an asset is settled, its imbalance is at most its rounding bound and its slope bound together, whatever way demands are rounded
abbrev pub SettledResidualsAreBounded : Type 0
SettledResidualsAreBounded = (orders : List Order) (prices : List ℤ) (rates : List ℕ) (asset : ℕ)
    → All IsOrder orders → AreRoundings orders prices rates → is_unsettled orders prices asset ≡ false
    → unsigned_abs (residual (trades orders rates) asset) ≤ residual_bound orders asset

-- each imbalance is within its tolerance
abbrev pub AreBounded : List Order → List ℤ → Type 0
AreBounded orders residuals = (asset : ℕ) → asset < length residuals → unsigned_abs (residual_in residuals asset) ≤ residual_bound orders asset

-- each imbalance of a settled asset is within its tolerance
abbrev pub AreBoundedWhereSettled : List Order → List ℤ → List ℤ → Type 0
AreBoundedWhereSettled orders prices residuals =
    (asset : ℕ) → asset < length residuals → is_unsettled orders prices asset ≡ false → unsigned_abs (residual_in residuals asset) ≤ residual_bound orders asset

-- every clearing of orders within the limits has a verdict
abbrev pub EachHasAVerdict : Type 0
EachHasAVerdict = (orders : List Order) (start : List ℤ) (c : Clearing) → All IsOrder orders → (v : Verdict) × IsVerdict orders start c v

-- every clearing has at most one verdict
abbrev pub OneVerdict : Type 0
OneVerdict = (orders : List Order) (start : List ℤ) (c : Clearing) (v w : Verdict) → IsVerdict orders start c v → IsVerdict orders start c w → v ≡ w

-- the verdict on a clearing is `Right` exactly if the clearing is admissible
abbrev pub RightIsForAdmissibleClearings : Type 0
RightIsForAdmissibleClearings = (orders : List Order) (start : List ℤ) (c : Clearing) → IsVerdict orders start c Right ↔ IsAdmissibleClearing orders start c
