-- What holds of canonical outcomes.
use Rattle.std.proofs.Common.{◌≡◌, ℕ, ℤ, pos, ◌+ℤ◌, ◌*ℤ◌, List, [], ◌∷◌, refl, ap, sym, subst, ◌∙◌, arith}
use Rattle.std.specs.Prelude.{length}
use Rattle.std.proofs.lemmas.Bool.{false≢true}
use Rattle.weight_rows.specs.Rows.{weight_in}
use Rattle.flow_orders.specs.Orders.{Order}
use Rattle.flow_orders.specs.Excess.{is_unsettled}
use Rattle.canonical_rule.specs.Choice.{left_by}
use Rattle.flow_orders.specs.Trades.{trades, residual}
use Rattle.flow_orders.specs.Outcomes.{Cleared, Skipped, step_of}
use Rattle.canonical_rule.specs.Canonical.{ArePricesOf, floor_at, is_fraction_at, floor_rates, rates_by_choice}
use Rattle.canonical_rule.specs.Laws.{OneCanonicalOutcome, EveryBatchHasACanonicalOutcome, CanonicalOutcomesAreAdmissible, OneAssetBooksClear, ChosenRatesAreNoWorse, OneWalkOfEachLength, CanonicalWalksAreShortest}
use Rattle.canonical_rule.proofs.Choice.{absolute_sum-same, chosen_is_no_worse}
use Rattle.canonical_rule.proofs.Walks.{one_of_each_length, shortest_is, trace_is, trace_leaves, shortest_where, trace_where}
use Rattle.flow_orders.proofs.Moving.{settled_is}
use Rattle.canonical_rule.proofs.CanonicalIsAdmissible.{settles_once, canonical_is_admissible}
use Rattle.canonical_rule.proofs.OneCanonical.{one_own, own_is_there}

pub one_canonical_outcome : OneCanonicalOutcome
one_canonical_outcome = one_own

pub every_batch_has_a_canonical_outcome : EveryBatchHasACanonicalOutcome
every_batch_has_a_canonical_outcome = own_is_there

pub canonical_outcomes_are_admissible : CanonicalOutcomesAreAdmissible
canonical_outcomes_are_admissible = canonical_is_admissible

pub one_asset_books_clear : OneAssetBooksClear
one_asset_books_clear search whole orders start budget (Cleared c) each is range own =
    let once = settles_once search.parts whole orders start c.prices is each range (subst (λ single. ArePricesOf search single orders start budget c.prices) is own.0) in
    (once.range, λ asset settled. once.kept asset (settled_is orders start asset settled))
one_asset_books_clear search whole orders start budget (Skipped s) each is range own = absurd (false≢true (sym own.0 ∙ is))

-- the imbalances at rates are those of the trades
residuals_are : (orders : List Order) (rates : List ℕ) (asset : ℕ) → left_by (λ o asset. weight_in o.row asset) orders rates asset ≡ residual (trades orders rates) asset
residuals_are [] rates asset = refl
residuals_are (o ∷ orders) [] asset = refl
residuals_are (o ∷ orders) (x ∷ rates) asset = ap (λ y. weight_in o.row asset *ℤ pos x +ℤ y) (residuals_are orders rates asset)

pub chosen_rates_are_no_worse : ChosenRatesAreNoWorse
chosen_rates_are_no_worse n orders prices =
    let weight : Order → ℕ → ℤ = λ o asset. weight_in o.row asset in
    let chosen = rates_by_choice n orders prices in
    let floors = floor_rates orders prices in
    let least = chosen_is_no_worse n weight (floor_at prices) (is_fraction_at prices) orders in
    let one = absolute_sum-same n (left_by weight orders chosen) (residual (trades orders chosen)) (residuals_are orders chosen) in
    let two = absolute_sum-same n (left_by weight orders floors) (residual (trades orders floors)) (residuals_are orders floors) in
    omega (arith, least, one, two)

pub one_walk_of_each_length : OneWalkOfEachLength
one_walk_of_each_length parts orders start v w one other same = one_of_each_length (length start) (is_unsettled orders) (step_of parts orders) 0 start v w one other same

pub canonical_walks_are_shortest : CanonicalWalksAreShortest
canonical_walks_are_shortest = record {
  settles = λ parts orders start budget settled. shortest_where (length start) (is_unsettled orders) (step_of parts orders) budget start settled;
  only = λ parts orders start budget walk own. (shortest_is (length start) (is_unsettled orders) (step_of parts orders) budget start walk own, own.settles);
  leaves = λ parts orders start budget left. trace_where (length start) (is_unsettled orders) (step_of parts orders) budget start left;
  trace = λ parts orders start budget walk own. (
    trace_is (length start) (is_unsettled orders) (step_of parts orders) budget start walk own,
    trace_leaves (length start) (is_unsettled orders) (step_of parts orders) budget start walk own,
  );
}
