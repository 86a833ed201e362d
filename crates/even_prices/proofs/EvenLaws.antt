-- Imbalances at even prices.
use Rattle.std.proofs.Common.{◌≡◌, ⊎_elim, ℕ, ◌+◌, ◌*◌, ◌≤◌, ◌<◌, ℤ, pos, ◌≤ℤ◌, ◌+ℤ◌, Bool, false, not, List, length, map, refl, ap, sym, subst, ◌∙◌, arith}
use Rattle.std.specs.Prelude.{All, neg_ℤ, unsigned_abs, slice_index_or}
use Rattle.std.specs.List.{sum_by, filter}
use Rattle.std.specs.Int.{div_ceil}
use Rattle.std.proofs.lemmas.Int.{ints}
use Rattle.std.proofs.lemmas.Bool.{cases_Bool}
use Rattle.std.proofs.lemmas.List.{length-map}
use Rattle.std.proofs.lemmas.List.Filters.{sum_by-filter_both}
use Rattle.weight_rows.specs.Rows.{weight_in}
use Rattle.demand_curve.proofs.Quotients.{up_within, up_times}
use Rattle.flow_orders.specs.Orders.{Order, IsOrder}
use Rattle.flow_orders.specs.Excess.{steepness, spread, residual_bound}
use Rattle.flow_orders.specs.WholeUnits.{low_excess, high_excess}
use Rattle.flow_orders.specs.Trades.{Trade, trades, residual}
use Rattle.flow_orders.proofs.Book.{IsConsistent, squares}
use Rattle.flow_orders.proofs.Residuals.{residual_between}
use Rattle.flow_orders.proofs.TradeFacts.{before_fills, before-trades, All-trades}
use Rattle.flow_orders.specs.Outcomes.{Fill}
use Rattle.even_prices.specs.Even.{IsEven, AreEven}
use Rattle.even_prices.specs.Active.{is_active, IsSteady}
use Rattle.even_prices.specs.Laws.{AreRounded, EvenResidualsAreBounded, ActiveBoundsAreWithinTolerances, SteadyOrdersWidenNothing}
use Rattle.even_prices.proofs.Counted.{LeavesStill, near, low_most, high_least}
use Rattle.even_prices.proofs.Steadiness.{inactive_is_steady, steady_is_still, one_part}

pub is_consistent : (o : Order) → IsOrder o → IsConsistent o
is_consistent o h = record { limits = h.terms; lawful = h.row }

pub all_consistent : (orders : List Order) → All IsOrder orders → All IsConsistent orders
all_consistent orders each k d inside = is_consistent (slice_index_or orders k d) (each k d inside)

-- an imbalance is within what the orders that count allow
pub residual_counted : (counts : Order → Bool) (orders : List Order) (prices : List ℤ) (rates : List ℕ) (asset : ℕ)
    → All IsOrder orders → asset < length prices → AreRounded orders prices rates → IsEven orders prices asset → LeavesStill counts orders prices asset
    → unsigned_abs (residual (trades orders rates) asset) ≤ residual_bound (filter counts orders) asset
residual_counted counts orders prices rates asset each within rounded even still =
    let consistent = all_consistent orders each in
    let before : before_fills (trades orders rates) ≡ orders = before-trades orders rates rounded.one_each in
    let between = residual_between (λ (t : Trade). t.order) (λ t. t.traded) (trades orders rates) prices asset (All-trades IsConsistent orders rates consistent) rounded.roundings in
    bounded (low_excess orders prices asset) (residual (trades orders rates) asset) (high_excess orders prices asset) (spread (filter counts orders) asset) (steepness (filter counts orders) asset)
    (subst (λ l. low_excess l prices asset ≤ℤ residual (trades orders rates) asset) before between.above_low)
    (subst (λ l. residual (trades orders rates) asset ≤ℤ high_excess l prices asset) before between.below_high)
    (near counts orders prices asset consistent within still)
    (low_most counts orders prices asset consistent within still even)
    (high_least counts orders prices asset consistent within still even)
  where
    bounded : (low r high : ℤ) (spread steep : ℕ) → low ≤ℤ r → r ≤ℤ high → high ≤ℤ (low +ℤ pos spread) → low ≤ℤ pos steep → neg_ℤ (pos steep) ≤ℤ high → unsigned_abs r ≤ spread + steep
    bounded low r high spread steep above below near most least = omega (arith, ints, above, below, near, most, least)

-- orders that are left out are steady
pub steady_left : (counts : Order → Bool) (orders : List Order) (prices : List ℤ) (asset : ℕ) → All IsOrder orders → asset < length prices
    → All (λ o. counts o ≡ false → IsSteady o prices) orders → LeavesStill counts orders prices asset
steady_left counts orders prices asset each within steady k d inside left =
    let o : Order = slice_index_or orders k d in
    steady_is_still o prices asset (is_consistent o (each k d inside)) within (steady k d inside left)

pub even_residuals_are_bounded : EvenResidualsAreBounded
even_residuals_are_bounded orders prices rates asset each within rounded even =
    residual_counted (is_active prices) orders prices rates asset each within rounded even
    (steady_left (is_active prices) orders prices asset each within
    (λ k d inside past. let o : Order = slice_index_or orders k d in inactive_is_steady o prices (is_consistent o (each k d inside)) past))

pub steady_orders_widen_nothing : SteadyOrdersWidenNothing
steady_orders_widen_nothing = record {
  inactive = λ o prices h not.
      inactive_is_steady o prices (is_consistent o h) (⊎_elim (λ active. absurd (not active)) (λ past. past) (cases_Bool (is_active prices o)));
  one_part = λ parts o prices asset h within steady. one_part parts o prices asset (is_consistent o h) within steady;
  uncounted = λ counts orders prices rates asset each within rounded even steady.
      residual_counted counts orders prices rates asset each within rounded even (steady_left counts orders prices asset each within steady);
}

-- ---- the bound by some orders is at most that by all

-- a sum over some members is at most that over all
some_least : {X : Type 0} (f : X → ℕ) (counts : X → Bool) (xs : List X) → sum_by f (filter counts xs) ≤ sum_by f xs
some_least f counts xs = omega (arith, sum_by-filter_both counts (λ x. not (counts x)) (λ x. refl) f xs)

-- a lesser number of parts has no larger quotient, rounded up
up_order : (m n : ℕ) → m ≤ n → div_ceil m 256 ≤ div_ceil n 256
up_order m n less = up_within m 256 (div_ceil n 256) (omega arith) (omega (arith, less, (up_times n 256 (omega arith)).0))

pub fewer_orders : (counts : Order → Bool) (orders : List Order) (asset : ℕ) → residual_bound (filter counts orders) asset ≤ residual_bound orders asset
unfolding steepness
fewer_orders counts orders asset =
    let weights = some_least (λ (o : Order). unsigned_abs (weight_in o.row asset)) counts orders in
    let slopes = up_order (squares (filter counts orders) asset) (squares orders asset) (some_least (λ (o : Order). unsigned_abs (weight_in o.row asset) * unsigned_abs (weight_in o.row asset)) counts orders) in
    omega (arith, weights, slopes)

-- at even prices each imbalance is within its tolerance
pub within_tolerances : (orders : List Order) (prices : List ℤ) (rates : List ℕ) → All IsOrder orders → AreRounded orders prices rates → AreEven orders prices
    → (asset : ℕ) → asset < length prices → unsigned_abs (residual (trades orders rates) asset) ≤ residual_bound orders asset
within_tolerances orders prices rates each rounded even asset within =
    omega (arith, even_residuals_are_bounded orders prices rates asset each within rounded (even asset within), fewer_orders (is_active prices) orders asset)

pub active_bounds_are_within_tolerances : ActiveBoundsAreWithinTolerances
active_bounds_are_within_tolerances = record {
  bound = λ orders prices asset. fewer_orders (is_active prices) orders asset;
  residuals = within_tolerances;
  clearings = λ orders start c each count numbers rounded even asset within.
      let fills : length (map (λ (f : Fill). f.order) c.fills) ≡ length c.fills = length-map c.fills (λ (f : Fill). f.order) in
      let all : length (map (λ (o : Order). o.number) orders) ≡ length orders = length-map orders (λ (o : Order). o.number) in
      let rates : length (map (λ (f : Fill). f.rate) c.fills) ≡ length c.fills = length-map c.fills (λ (f : Fill). f.rate) in
      let one_each : length (map (λ (f : Fill). f.rate) c.fills) ≡ length orders = rates ∙ sym fills ∙ ap length numbers ∙ all in
      within_tolerances orders c.prices (map (λ (f : Fill). f.rate) c.fills) each (record { one_each = one_each; roundings = rounded }) even asset (omega (arith, count, within));
}
