-- The imbalance of a settled asset is bounded, and so is the gap of imbalances within their tolerances.
use Rattle.std.proofs.Common.{◌≡◌, ◌<◌, ◌≤◌, ◌≤ℤ◌, ℕ, ℤ, pos, List, [], ◌∷◌, map, length, refl, ap, sym, subst, ◌∙◌, arith}
use Rattle.std.specs.Prelude.{All, unsigned_abs}
use Rattle.std.proofs.lemmas.List.FromFn.{length-map-range_with_len, get_or-map-range_with_len}
use Rattle.weight_rows.specs.Rows.{IsPrice, IsPricedBy, price_of}
use Rattle.demand_curve.specs.Demand.{IsRounding}
use Rattle.flow_orders.specs.Orders.{Order, IsOrder, terms_of}
use Rattle.flow_orders.specs.Excess.{price_for, residual_bound}
use Rattle.flow_orders.specs.Trades.{Trade, trades, residual}
use Rattle.flow_orders.specs.Outcomes.{Fill, trades_of, fill_of, residuals_of, gap_of, IsAdmissibleClearing, clearing_at}
use Rattle.flow_orders.specs.Welfare.{IsOptimalWithin}
use Rattle.flow_orders.proofs.Book.{IsConsistent, IsSettled}
use Rattle.flow_orders.proofs.Moving.{settled_is}
use Rattle.flow_orders.proofs.GapBound.{gaps_are_bounded}
use Rattle.flow_orders.proofs.Optimal.{roundings_are_optimal}
use Rattle.flow_orders.proofs.Residuals.{residual_within_bound}
use Rattle.flow_orders.proofs.TradeFacts.{before_fills, before-trades, All-trades}
use Rattle.batch_outcome.specs.GapBound.{gap_bound}
use Rattle.batch_certificate.specs.Laws.{AreRoundings, AreBounded, AreBoundedWhereSettled, SettledResidualsAreBounded}

pub settled_residuals_are_bounded : SettledResidualsAreBounded
settled_residuals_are_bounded orders prices rates asset each rounded settled =
    let ts = trades orders rates in
    let before : before_fills ts ≡ orders = before-trades orders rates rounded.one_each in
    let consistent : All IsConsistent orders = λ k d inside. let o = each k d inside in record { limits = o.terms; lawful = o.row } in
    let bound = residual_within_bound (λ (t : Trade). t.order) (λ t. t.traded) ts prices asset (All-trades IsConsistent orders rates consistent) rounded.roundings
    (subst (λ l. IsSettled l prices asset) (sym before) (settled_is orders prices asset settled)) in
    subst (λ l. unsigned_abs (residual ts asset) ≤ residual_bound l asset) before bound

-- ---- a certificate as an admissible clearing
-- the published rates of trades are the rates
rates_back : (orders : List Order) (rates : List ℕ) → length rates ≡ length orders → map (λ (f : Fill). f.rate) (map fill_of (trades orders rates)) ≡ rates
rates_back [] [] count = refl
rates_back [] (x ∷ rates) count = absurd (omega (arith, count))
rates_back (o ∷ orders) [] count = absurd (omega (arith, count))
rates_back (o ∷ orders) (x ∷ rates) count = ap (λ l. x ∷ l) (rates_back orders rates (omega (arith, count)))

-- the published numbers of trades are their orders' numbers
numbers_back : (orders : List Order) (rates : List ℕ) → length rates ≡ length orders → map (λ (f : Fill). f.order) (map fill_of (trades orders rates)) ≡ map (λ (o : Order). o.number) orders
numbers_back [] [] count = refl
numbers_back [] (x ∷ rates) count = absurd (omega (arith, count))
numbers_back (o ∷ orders) [] count = absurd (omega (arith, count))
numbers_back (o ∷ orders) (x ∷ rates) count = ap (λ l. o.number ∷ l) (numbers_back orders rates (omega (arith, count)))

-- roundings whose imbalances are within their tolerances give an admissible clearing
right_at : (orders : List Order) (prices : List ℤ) (rates : List ℕ) → All IsPrice prices → AreRoundings orders prices rates
    → ((asset : ℕ) → asset < length prices → unsigned_abs (residual (trades orders rates) asset) ≤ residual_bound orders asset)
    → IsAdmissibleClearing orders prices (clearing_at (length prices) prices (trades orders rates))
right_at orders prices rates small rounded bounded =
    let ts = trades orders rates in
    let back : trades_of orders (map fill_of ts) ≡ ts = ap (trades orders) (rates_back orders rates rounded.one_each) in
    record {
      one_price_each = refl;
      small = small;
      unnamed = λ asset inside none. refl;
      numbers = numbers_back orders rates rounded.one_each;
      roundings = rw back rounded.roundings;
      residual_each = rw back refl;
      bounded = λ asset inside. rw back (bounded asset inside);
      gap_is = rw back refl;
    }

-- an imbalance in the list of imbalances
pub residual_at : (n : ℕ) (ts : List Trade) (asset : ℕ) → asset < n → price_of (residuals_of n ts) asset ≡ residual ts asset
residual_at n ts asset inside = get_or-map-range_with_len (residual ts) 0 n asset asset (pos 0) inside (omega arith)

module _ (orders : List Order) (prices : List ℤ) (rates : List ℕ) (each : All IsOrder orders) (count : length rates ≡ length orders)
    (rounded : All (λ t. IsRounding (terms_of t.order) t.traded (price_for prices t.order)) (trades orders rates)) where
  left_at : (residuals : List ℤ) → residuals ≡ residuals_of (length prices) (trades orders rates) → (asset : ℕ) → asset < length prices → price_of residuals asset ≡ residual (trades orders rates) asset
  left_at residuals left asset inside = ap (λ l. price_of l asset) left ∙ residual_at (length prices) (trades orders rates) asset inside

  places : (residuals : List ℤ) → residuals ≡ residuals_of (length prices) (trades orders rates) → length residuals ≡ length prices
  places residuals left = ap length left ∙ length-map-range_with_len (residual (trades orders rates)) 0 (length prices)

  pub bounded_where_settled : (residuals : List ℤ) → residuals ≡ residuals_of (length prices) (trades orders rates) → AreBoundedWhereSettled orders prices residuals
  bounded_where_settled residuals left asset inside settled =
      rw (left_at residuals left asset (omega (arith, inside, places residuals left))) (settled_residuals_are_bounded orders prices rates asset each (record { one_each = count; roundings = rounded }) settled)

  pub gap_is_bounded : (residuals : List ℤ) (gap : ℤ) → All IsPrice prices → residuals ≡ residuals_of (length prices) (trades orders rates) → gap ≡ gap_of prices (trades orders rates)
      → AreBounded orders residuals → gap ≤ℤ pos (gap_bound orders prices)
  gap_is_bounded residuals gap small left is bounded =
      let right = right_at orders prices rates small (record { one_each = count; roundings = rounded })
      (λ asset inside. rw (← left_at residuals left asset inside) (bounded asset (omega (arith, inside, places residuals left)))) in
      rw is (gaps_are_bounded orders prices (clearing_at (length prices) prices (trades orders rates)) each right)

  pub optimal_within_gap : (gap : ℤ) → All (λ o. IsPricedBy o.row prices) orders → gap ≡ gap_of prices (trades orders rates) → IsOptimalWithin gap orders rates
  optimal_within_gap gap priced is = rw is (roundings_are_optimal orders prices rates each priced count rounded)
