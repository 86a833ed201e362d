-- What is certified at the prices of the canonical rule is the canonical outcome.
use Rattle.std.proofs.Common.{◌≡◌, ◌↔◌, ℕ, ◌<◌, ◌≤◌, ◌^◌, ℤ, pos, ◌≤ℤ◌, Bool, true, false, IsTrue, Result, Ok, Err, List, length, to_z, of_z, ap, sym, subst, ◌∙◌, ⊎_elim, arith}
use Rattle.std.specs.Prelude.{All, IfOk, unsigned_abs}
use Rattle.std.specs.Int.{w128}
use Rattle.std.proofs.lemmas.Int.{ints, to_z-of_z, fits_signed_from_abs}
use Rattle.std.proofs.lemmas.Bool.{cases_Bool, false≢true}
use Rattle.std.proofs.lemmas.List.FromFn.{length-range_with_len, get_or-map-range_with_len}
use Rattle.std.specs.List.{range_with_len}
use Rattle.std.proofs.lemmas.List.{length-map}
use Rattle.demand_curve.specs.Demand.{IsWithin}
use Rattle.flow_orders.specs.Orders.{Order, IsOrder}
use Rattle.flow_orders.specs.Excess.{is_unsettled, residual_bound}
use Rattle.canonical_rule.specs.Turns.{visits, IsCanonicalTrace}
use Rattle.flow_orders.specs.Trades.{trades, residual}
use Rattle.flow_orders.specs.Outcomes.{most_budget, dual_of, step_of, end_of, trades_of, IsAdmissibleClearing, IsAdmissibleOutcome, are_single, clearing_at, ClearsNear}
use Rattle.flow_orders.specs.declared.search.Search.{Search}
use Rattle.canonical_rule.specs.Attempts.{attempts, EndsFirst}
use Rattle.canonical_rule.specs.Canonical.{moved_once, ArePricesOf, rates_by_choice, IsCanonicalOutcome}
use Rattle.canonical_rule.proofs.CanonicalIsAdmissible.{canonical_prices_count, canonical_is_admissible, single_each}
use Rattle.canonical_rule.proofs.CanonicalLaws.{one_asset_books_clear}
use Rattle.canonical_rule.proofs.CanonicalWalks.{skip_if_none}
use Rattle.flow_orders.proofs.WalkLaws.{walks_lower_the_dual, admissible_skips_lower_the_dual}
use Rattle.coordinate_search.proofs.Settling.{single_all}
use Rattle.batch_outcome.specs.declared.outcome.Cleared.{Cleared}
use Rattle.batch_outcome.specs.declared.outcome.Outcome.{Outcome}
use Rattle.batch_outcome.specs.declared.outcome.Outcome.TheVariants as variants
use Rattle.batch_outcome.specs.Published.{clearing_of, skipping_of, outcome_of, HasOneRateEach}
use Rattle.batch_engine.specs.Certified.{IsCertified}
use Rattle.batch_engine.specs.Private.{IsClearedAt, IsClearedFrom, IsSkippedFrom, IsOutcomeFrom, IsSpent}
use Rattle.batch_certificate.specs.Laws.{AreBounded}
use Rattle.flow_orders.specs.Residuals.{residual_in}

-- what follows from a fact of every value follows from it of a result
pub on_ok : {T E : Type 0} {P Q : T → Type 0} → ((x : T) → P x → Q x) → (result : Result T E) → IfOk result P → IfOk result Q
on_ok follows (Ok x) holds = follows x holds
on_ok follows (Err e) holds = tt

-- ---- books of one-asset orders, by a test of them

pub single_where : (orders : List Order) (test : Bool) → (IsTrue test ↔ All (λ (o : Order). length o.row ≡ 1) orders) → test ≡ true → are_single orders ≡ true
single_where orders test tests holds = single_all orders (tests.0 holds)

pub wide_where : (orders : List Order) (test : Bool) → (IsTrue test ↔ All (λ (o : Order). length o.row ≡ 1) orders) → test ≡ false → are_single orders ≡ false
wide_where orders test tests fails = ⊎_elim (λ single. absurd (false≢true (sym fails ∙ tests.1 (single_each orders single)))) (λ wide. wide) (cases_Bool (are_single orders))

-- ---- clearings and skips

-- if the prices are those of the canonical rule, the clearing at them is the canonical outcome
pub cleared_is_canonical : (search : Search) → 1 ≤ search.parts → (orders : List Order) (start prices : List ℤ) (budget : ℕ) (c : Cleared) → All IsOrder orders → All (IsWithin (2 ^ 60)) start → budget ≤ most_budget
    → ArePricesOf search (are_single orders) orders start budget prices → IsClearedAt orders prices c → IsClearedFrom search orders start budget c
cleared_is_canonical search some orders start prices budget c each range few own at =
    let count = canonical_prices_count search some orders start budget prices each range few own in
    record {
      each = each;
      own = (
        subst (ArePricesOf search (are_single orders) orders start budget) (sym at.prices_are) own,
        at.certified ∙ ap (λ n. clearing_at n prices (trades orders c.rates)) count ∙ ap (λ xs. clearing_at (length start) prices (trades orders xs)) (at.rates_are ∙ ap (λ n. rates_by_choice n orders prices) count)
            ∙ ap (λ p. clearing_at (length start) p (trades orders (rates_by_choice (length start) orders p))) (sym at.prices_are),
      );
      at = subst (λ p. IsClearedAt orders p c) (sym at.prices_are) at;
    }

-- if each order names one asset, the clearing at these prices is the canonical outcome, whatever the budget
pub single_is_own : {E : Type 0} (search : Search) → 1 ≤ search.parts → (orders : List Order) (start prices : List ℤ) (result : Result Cleared E) → All IsOrder orders → All (IsWithin (2 ^ 60)) start
    → are_single orders ≡ true → prices ≡ moved_once search.parts orders (visits (length start) 0) start → IfOk result (IsClearedAt orders prices)
    → IfOk result (λ c. (budget : ℕ) → budget ≤ most_budget → IsClearedFrom search orders start budget c)
single_is_own search some orders start prices (Ok c) each range single moved at = λ budget few. cleared_is_canonical search some orders start prices budget c each range few (subst (λ s. ArePricesOf search s orders start budget prices) (sym single) moved) at
single_is_own search some orders start prices (Err e) each range single moved at = tt

-- the clearing at the prices of the first attempt that succeeds is the canonical outcome
pub searched_is_canonical : (search : Search) → 1 ≤ search.parts → (orders : List Order) (start prices : List ℤ) (budget : ℕ) (c : Cleared) → All IsOrder orders → All (IsWithin (2 ^ 60)) start → budget ≤ most_budget
    → are_single orders ≡ false → EndsFirst search.parts orders (attempts search.joint orders start budget) prices → IsClearedAt orders prices c → IsClearedFrom search orders start budget c
searched_is_canonical search some orders start prices budget c each range few wide first at =
    cleared_is_canonical search some orders start prices budget c each range few (subst (λ s. ArePricesOf search s orders start budget prices) (sym wide) first) at

-- a skip with the walk of the whole budget, if no attempt succeeds, is the canonical outcome
pub skipped_is_canonical : (search : Search) (orders : List Order) (start end : List ℤ) (budget : ℕ) (walk trace : List ℕ) (a b : ℤ) → All IsOrder orders → are_single orders ≡ false
    → IsSpent search orders start budget end walk → trace ≡ walk
    → a ≡ pos (dual_of orders start) → b ≡ pos (dual_of orders end) → a ≤ℤ pos (2 ^ 117) → b ≤ℤ pos (2 ^ 117)
    → IsSkippedFrom search orders start budget (record { trace = trace; start_dual = to_z w128 (of_z w128 a); end_dual = to_z w128 (of_z w128 b) })
skipped_is_canonical search orders start end budget walk trace a b each wide spent trace_is a_is b_is a_most b_most =
    let parts = search.parts in
    let start_is : to_z w128 (of_z w128 a) ≡ pos (dual_of orders start) = to_z-of_z w128 a (fits_signed_from_abs w128 a (omega (arith, ints, a_is, a_most))) ∙ a_is in
    let end_is : to_z w128 (of_z w128 b) ≡ pos (dual_of orders (end_of parts orders start trace)) =
    to_z-of_z w128 b (fits_signed_from_abs w128 b (omega (arith, ints, b_is, b_most))) ∙ b_is ∙ ap (λ p. pos (dual_of orders p)) (spent.ends ∙ ap (end_of parts orders start) (sym trace_is)) in
    record {
      each = each;
      own = skip_if_none parts orders start budget search.joint (record { trace = trace; start_dual = to_z w128 (of_z w128 a); end_dual = to_z w128 (of_z w128 b) }) wide spent.none
          (subst (IsCanonicalTrace (length start) (is_unsettled orders) (step_of parts orders) start budget) (sym trace_is) spent.whole)
          (ap (λ d. record { trace = trace; start_dual = d; end_dual = to_z w128 (of_z w128 b) }) start_is
          ∙ ap (λ d. record { trace = trace; start_dual = pos (dual_of orders start); end_dual = d }) end_is);
    }

-- the imbalances of an admissible clearing are within their tolerances
residuals_bounded : (orders : List Order) (start : List ℤ) (c : Cleared) → IsAdmissibleClearing orders start (clearing_of orders c) → AreBounded orders c.residuals
residuals_bounded orders start c right asset inside =
    let ts = trades_of orders (clearing_of orders c).fills in
    let count : length c.residuals ≡ length start = ap length right.residual_each ∙ length-map (range_with_len 0 (length start)) (residual ts) ∙ length-range_with_len 0 (length start) in
    let there : asset < length start = omega (arith, inside, count) in
    let at : residual_in c.residuals asset ≡ residual ts asset =
    ap (λ l. residual_in l asset) right.residual_each ∙ get_or-map-range_with_len (residual ts) 0 (length start) asset asset (pos 0) there (omega arith) in
    subst (λ z. unsigned_abs z ≤ residual_bound orders asset) (sym at) (right.bounded asset there)

module _ (search : Search) (whole : 1 ≤ search.parts) (orders : List Order) (start : List ℤ) (budget : ℕ) (range : All (IsWithin (2 ^ 60)) start) (few : budget ≤ most_budget) where
  -- a canonical outcome is admissible
  pub outcome_is_canonical : (o : Outcome) → IsOutcomeFrom search orders start budget o → IsCanonicalOutcome search orders start budget (outcome_of orders o)
  outcome_is_canonical (variants.Cleared c) from = from.own
  outcome_is_canonical (variants.Skipped s) from = from.own

  each_of : (o : Outcome) → IsOutcomeFrom search orders start budget o → All IsOrder orders
  each_of (variants.Cleared c) from = from.each
  each_of (variants.Skipped s) from = from.each

  pub outcome_is_admissible : (o : Outcome) → IsOutcomeFrom search orders start budget o → IsAdmissibleOutcome search orders start budget (outcome_of orders o)
  outcome_is_admissible o from = canonical_is_admissible search whole orders start budget (outcome_of orders o) (each_of o from) range few (outcome_is_canonical o from)

  pub outcome_is_near : (o : Outcome) → IsOutcomeFrom search orders start budget o → are_single orders ≡ true → ClearsNear orders start (outcome_of orders o)
  outcome_is_near o from single = one_asset_books_clear search whole orders start budget (outcome_of orders o) (each_of o from) single range (outcome_is_canonical o from)

  pub outcome_has_rates : (o : Outcome) → IsOutcomeFrom search orders start budget o → HasOneRateEach orders o
  outcome_has_rates (variants.Cleared c) from = from.at.one_rate_each
  outcome_has_rates (variants.Skipped s) from = tt

  pub outcome_is_certified : (o : Outcome) → IsOutcomeFrom search orders start budget o → IsCertified search.parts orders start o
  outcome_is_certified (variants.Cleared c) from =
      let right = outcome_is_admissible (variants.Cleared c) from in
      record { optimal = from.at.optimal; bounded = from.at.bounded (residuals_bounded orders start c right) }
  outcome_is_certified (variants.Skipped s) from =
      let right = outcome_is_admissible (variants.Skipped s) from in
      record {
        exact = λ N common. walks_lower_the_dual.exact search.parts whole N orders start s.trace from.each common right.legal;
        moves = walks_lower_the_dual.moves search.parts orders start s.trace right.legal;
        floors = (admissible_skips_lower_the_dual search.parts whole orders start budget (skipping_of s) from.each right).0;
      }
