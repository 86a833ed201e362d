-- What holds of canonical outcomes, of walks in turn and of chosen rates.
use Rattle.std.specs.Prelude.{◌≡◌, ℕ, ℤ, ◌^◌, ◌≤◌, ◌↔◌, true, ◌||◌, List, length, All}
use Rattle.demand_curve.specs.Demand.{IsWithin}
use Rattle.flow_orders.specs.Orders.{Order, IsOrder}
use Rattle.flow_orders.specs.Excess.{low_excess_in, high_excess_in, is_above_in, is_below_in, is_unsettled}
use Rattle.flow_orders.specs.WholeUnits.{low_excess, high_excess, is_above, is_below}
use Rattle.flow_orders.specs.Moves.{rise_of, fall_of, moved, amount_of}
use Rattle.canonical_rule.specs.Turns.{IsInTurn, IsCanonicalWalk, IsCanonicalTrace}
use Rattle.canonical_rule.specs.Choice.{absolute_sum}
use Rattle.flow_orders.specs.Trades.{trades, residual}
use Rattle.flow_orders.specs.Outcomes.{Clearing, Skipping, Outcome, Cleared, Skipped, step_of, IsLegalFrom, end_of, EndsSettled, skipping_at, IsAdmissibleOutcome, most_budget, are_single, ClearsNear}
use Rattle.flow_orders.specs.Duals.{movement_of}
use Rattle.flow_orders.specs.declared.search.Search.{Search}
use Rattle.canonical_rule.specs.Attempts.{walks_alone, with_joint_prices, canonical_walk}
use Rattle.canonical_rule.specs.Canonical.{floor_rates, rates_by_choice, IsCanonicalOutcome}
use Rattle.canonical_rule.specs.Units.{rise_by_units, fall_by_units, moved_by_units, amount_by_units, end_by_units, movement_by_units, IsLegalByUnits, skipping_by_units, IsAdmissibleByUnits, IsCanonicalByUnits}

-- a batch has at most one canonical outcome
abbrev pub OneCanonicalOutcome : Type 0
OneCanonicalOutcome = (search : Search) (orders : List Order) (start : List ℤ) (budget : ℕ) (o p : Outcome)
    → IsCanonicalOutcome search orders start budget o → IsCanonicalOutcome search orders start budget p → o ≡ p

-- every batch has a canonical outcome
abbrev pub EveryBatchHasACanonicalOutcome : Type 0
EveryBatchHasACanonicalOutcome = (search : Search) (orders : List Order) (start : List ℤ) (budget : ℕ) → (o : Outcome) × IsCanonicalOutcome search orders start budget o

-- a canonical outcome is admissible
abbrev pub CanonicalOutcomesAreAdmissible : Type 0
CanonicalOutcomesAreAdmissible = (search : Search) → 1 ≤ search.parts → (orders : List Order) (start : List ℤ) (budget : ℕ) (o : Outcome)
    → All IsOrder orders → All (IsWithin (2 ^ 60)) start → budget ≤ most_budget
    → IsCanonicalOutcome search orders start budget o → IsAdmissibleOutcome search orders start budget o

-- if every order names one asset, a canonical outcome is a clearing at prices within 2^60 grains of 0, and an asset that was settled keeps
-- its price
abbrev pub OneAssetBooksClear : Type 0
OneAssetBooksClear = (search : Search) → 1 ≤ search.parts → (orders : List Order) (start : List ℤ) (budget : ℕ) (o : Outcome)
    → All IsOrder orders → are_single orders ≡ true → All (IsWithin (2 ^ 60)) start → IsCanonicalOutcome search orders start budget o → ClearsNear orders start o

-- a batch that clears without joint prices clears with them too; one that is skipped with them is skipped without them, in the same way
pub record JointPricesSkipNoMore : Type 0 where
  pub clears : (parts : ℕ) (orders : List Order) (start : List ℤ) (budget : ℕ) (c : Clearing)
      → IsCanonicalOutcome (walks_alone parts) orders start budget (Cleared c) → (d : Clearing) × IsCanonicalOutcome (with_joint_prices parts) orders start budget (Cleared d)
  pub skips : (parts : ℕ) (orders : List Order) (start : List ℤ) (budget : ℕ) (s : Skipping)
      → IsCanonicalOutcome (with_joint_prices parts) orders start budget (Skipped s) → IsCanonicalOutcome (walks_alone parts) orders start budget (Skipped s)

-- chosen rates have no larger sum of absolute imbalances than all demands rounded down
abbrev pub ChosenRatesAreNoWorse : Type 0
ChosenRatesAreNoWorse = (n : ℕ) (orders : List Order) (prices : List ℤ)
    → absolute_sum n (residual (trades orders (rates_by_choice n orders prices))) ≤ absolute_sum n (residual (trades orders (floor_rates orders prices)))

-- there is at most one walk in turn of each length
abbrev pub OneWalkOfEachLength : Type 0
OneWalkOfEachLength = (parts : ℕ) (orders : List Order) (start : List ℤ) (v w : List ℕ)
    → IsInTurn (length start) (is_unsettled orders) (step_of parts orders) start v → IsInTurn (length start) (is_unsettled orders) (step_of parts orders) start w
    → length v ≡ length w → v ≡ w

-- If all assets are settled at the end of the canonical walk, it is the shortest walk in turn of which that holds, and the only shortest one.
-- If not, it is the walk in turn of exactly `budget` moves, and no shortest walk in turn that settles all assets has at most so many.
pub record CanonicalWalksAreShortest : Type 0 where
  pub settles : (parts : ℕ) (orders : List Order) (start : List ℤ) (budget : ℕ) → EndsSettled parts orders start (canonical_walk parts orders start budget)
      → IsCanonicalWalk (length start) (is_unsettled orders) (step_of parts orders) start budget (canonical_walk parts orders start budget)
  pub only : (parts : ℕ) (orders : List Order) (start : List ℤ) (budget : ℕ) (walk : List ℕ) → IsCanonicalWalk (length start) (is_unsettled orders) (step_of parts orders) start budget walk
      → (walk ≡ canonical_walk parts orders start budget) × EndsSettled parts orders start walk
  pub leaves : (parts : ℕ) (orders : List Order) (start : List ℤ) (budget : ℕ) → ¬ EndsSettled parts orders start (canonical_walk parts orders start budget)
      → IsCanonicalTrace (length start) (is_unsettled orders) (step_of parts orders) start budget (canonical_walk parts orders start budget)
  pub trace : (parts : ℕ) (orders : List Order) (start : List ℤ) (budget : ℕ) (walk : List ℕ) → IsCanonicalTrace (length start) (is_unsettled orders) (step_of parts orders) start budget walk
      → (walk ≡ canonical_walk parts orders start budget) × (¬ EndsSettled parts orders start walk)

-- with one part, excess, moves, walks, skips and outcomes without joint prices are those by whole units
pub record OnePartIsWholeUnits : Type 0 where
  pub low : (orders : List Order) (prices : List ℤ) (asset : ℕ) → low_excess_in 1 orders prices asset ≡ low_excess orders prices asset
  pub high : (orders : List Order) (prices : List ℤ) (asset : ℕ) → high_excess_in 1 orders prices asset ≡ high_excess orders prices asset
  pub above : (orders : List Order) (prices : List ℤ) (asset : ℕ) → is_above_in 1 orders prices asset ≡ is_above orders prices asset
  pub below : (orders : List Order) (prices : List ℤ) (asset : ℕ) → is_below_in 1 orders prices asset ≡ is_below orders prices asset
  pub unsettled : (orders : List Order) (prices : List ℤ) (asset : ℕ) → is_unsettled orders prices asset ≡ is_above orders prices asset || is_below orders prices asset
  pub rise : (orders : List Order) (reach : ℕ) (prices : List ℤ) (asset : ℕ) → rise_of 1 orders reach prices asset ≡ rise_by_units orders reach prices asset
  pub fall : (orders : List Order) (reach : ℕ) (prices : List ℤ) (asset : ℕ) → fall_of 1 orders reach prices asset ≡ fall_by_units orders reach prices asset
  pub prices : (orders : List Order) (reach : ℕ) (prices : List ℤ) (asset : ℕ) → moved 1 orders reach prices asset ≡ moved_by_units orders reach prices asset
  pub amount : (orders : List Order) (reach : ℕ) (prices : List ℤ) (asset : ℕ) → amount_of 1 orders reach prices asset ≡ amount_by_units orders reach prices asset
  pub end : (orders : List Order) (start : List ℤ) (walk : List ℕ) → end_of 1 orders start walk ≡ end_by_units orders start walk
  pub movement : (orders : List Order) (start : List ℤ) (walk : List ℕ) → movement_of 1 orders start walk ≡ movement_by_units orders start walk
  pub legal : (orders : List Order) (start : List ℤ) (walk : List ℕ) → IsLegalFrom 1 orders start walk ↔ IsLegalByUnits orders start walk
  pub skip : (orders : List Order) (start : List ℤ) (walk : List ℕ) → skipping_at 1 orders start walk ≡ skipping_by_units orders start walk
  pub right : (orders : List Order) (start : List ℤ) (budget : ℕ) (o : Outcome) → IsAdmissibleOutcome (walks_alone 1) orders start budget o ↔ IsAdmissibleByUnits orders start budget o
  pub own : (orders : List Order) (start : List ℤ) (budget : ℕ) (o : Outcome) → IsCanonicalOutcome (walks_alone 1) orders start budget o ↔ IsCanonicalByUnits orders start budget o
