-- Definitions for private functions of a batch.
use Rattle.std.specs.Prelude.{◌≡◌, pos, ◌≤ℤ◌, ℕ, ℤ, List, [], length, All}
use Rattle.flow_orders.specs.Orders.{Order, IsOrder}
use Rattle.flow_orders.specs.Trades.{trades}
use Rattle.flow_orders.specs.Welfare.{IsOptimalWithin}
use Rattle.flow_orders.specs.Excess.{is_unsettled}
use Rattle.flow_orders.specs.declared.search.Search.{Search}
use Rattle.flow_orders.specs.Outcomes.{step_of, end_of}
use Rattle.flow_orders.specs.Outcomes as outcomes
use Rattle.canonical_rule.specs.Turns.{IsCanonicalTrace}
use Rattle.canonical_rule.specs.Attempts.{Attempt, joint_attempts, attempts, Succeeds, end_of_attempt, EndsFirst, NoneSucceeds}
use Rattle.canonical_rule.specs.Canonical.{rates_by_choice, IsCanonicalOutcome}
use Rattle.flow_orders.specs.Outcomes.{clearing_at}
use Rattle.coordinate_search.specs.declared.searching.Found.{Found}
use Rattle.coordinate_search.specs.declared.searching.Found.TheVariants.{Settled, Spent}
use Rattle.batch_outcome.specs.declared.outcome.Cleared.{Cleared}
use Rattle.batch_outcome.specs.declared.outcome.Outcome.{Outcome}
use Rattle.batch_outcome.specs.declared.outcome.Outcome.TheVariants as variants
use Rattle.batch_outcome.specs.Published.{clearing_of, skipping_of}
use Rattle.batch_outcome.specs.GapBound.{gap_bound}
use Rattle.batch_certificate.specs.Laws.{AreBounded}

-- a clearing at these prices has the chosen rates, and is certified
pub record IsClearedAt (orders : List Order) (prices : List ℤ) (c : Cleared) : Type 0 where
  pub prices_are : c.prices ≡ prices
  pub rates_are : c.rates ≡ rates_by_choice (length prices) orders prices
  pub one_rate_each : length c.rates ≡ length orders
  pub certified : clearing_of orders c ≡ clearing_at (length prices) prices (trades orders c.rates)
  pub optimal : IsOptimalWithin c.gap orders c.rates
  pub bounded : AreBounded orders c.residuals → c.gap ≤ℤ pos (gap_bound orders prices)

-- a clearing is the canonical outcome of a batch
pub record IsClearedFrom (search : Search) (orders : List Order) (start : List ℤ) (budget : ℕ) (c : Cleared) : Type 0 where
  pub each : All IsOrder orders
  pub own : IsCanonicalOutcome search orders start budget (outcomes.Cleared (clearing_of orders c))
  pub at : IsClearedAt orders c.prices c

-- a skip is the canonical outcome of a batch
pub record IsSkippedFrom (search : Search) (orders : List Order) (start : List ℤ) (budget : ℕ) (s : outcomes.Skipping) : Type 0 where
  pub each : All IsOrder orders
  pub own : IsCanonicalOutcome search orders start budget (outcomes.Skipped s)

-- an outcome is the canonical one
abbrev pub IsOutcomeFrom : Search → List Order → List ℤ → ℕ → Outcome → Type 0
IsOutcomeFrom search orders start budget (variants.Cleared c) = IsClearedFrom search orders start budget c
IsOutcomeFrom search orders start budget (variants.Skipped s) = IsSkippedFrom search orders start budget (skipping_of s)

-- an attempt was made, and ended so: all assets are settled at its end, or some aren't
abbrev pub IsAttempted : ℕ → List Order → Attempt → Found → List ℤ → Type 0
IsAttempted parts orders a Settled prices = Succeeds parts orders a × (prices ≡ end_of_attempt parts orders a)
IsAttempted parts orders a Spent prices = ¬ Succeeds parts orders a

-- if some assets aren't settled, the prices are those of the start again, and no move is written down
abbrev pub IsBack : List ℤ → Found → List ℤ → List ℕ → Type 0
IsBack start Settled prices trace = Unit {0}
IsBack start Spent prices trace = (prices ≡ start) × (trace ≡ [])

-- the attempts with joint prices were made, if the search has them
abbrev pub AreTried : Search → List Order → List ℤ → ℕ → Found → List ℤ → List ℕ → Type 0
AreTried search orders start budget Settled prices trace = EndsFirst search.parts orders (joint_attempts search.joint orders start budget) prices
AreTried search orders start budget Spent prices trace = NoneSucceeds search.parts orders (joint_attempts search.joint orders start budget) × (prices ≡ start) × (trace ≡ [])

-- a search skips a batch after this walk
pub record IsSpent (search : Search) (orders : List Order) (start : List ℤ) (budget : ℕ) (prices : List ℤ) (trace : List ℕ) : Type 0 where
  pub none : NoneSucceeds search.parts orders (attempts search.joint orders start budget)
  pub whole : IsCanonicalTrace (length start) (is_unsettled orders) (step_of search.parts orders) start budget trace
  pub ends : prices ≡ end_of search.parts orders start trace

-- all attempts were made, as far as they are needed
abbrev pub IsSearched : Search → List Order → List ℤ → ℕ → Found → List ℤ → List ℕ → Type 0
IsSearched search orders start budget Settled prices trace = EndsFirst search.parts orders (attempts search.joint orders start budget) prices
IsSearched search orders start budget Spent prices trace = IsSpent search orders start budget prices trace
