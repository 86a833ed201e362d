-- The rule with moves that end by whole units, defined without parts. With one part, the rule with parts is this one.
use Rattle.std.specs.Prelude.{◌≡◌, ℕ, ◌+◌, Bool, true, false, not, if◌then◌else◌, ℤ, pos, List, [], ◌∷◌, length}
use Rattle.flow_orders.specs.Orders.{Order}
use Rattle.flow_orders.specs.Excess.{is_unsettled}
use Rattle.flow_orders.specs.WholeUnits.{is_above, is_below}
use Rattle.flow_orders.specs.Walks.{walk_end, IsLegal, AreSettled}
use Rattle.canonical_rule.specs.Turns.{visits, walk_in_turn}
use Rattle.flow_orders.specs.Moves.{least_amount, risen, fallen, walk_reach, single_reach}
use Rattle.flow_orders.specs.Trades.{trades}
use Rattle.flow_orders.specs.Outcomes.{Skipping, Outcome, Cleared, Skipped, dual_of, IsWide, IsAdmissibleClearing, are_single, clearing_at}
use Rattle.canonical_rule.specs.Canonical.{rates_by_choice}

-- by how many grains, at most `reach`, the price of an asset rises: to the first price at which its low excess is no longer above
abbrev pub rise_by_units : List Order → ℕ → List ℤ → ℕ → ℕ
rise_by_units orders reach prices asset = least_amount reach (λ d. not (is_above orders (risen prices asset d) asset))

-- by how many grains, at most `reach`, the price of an asset falls: to the first price at which its high excess is no longer below
abbrev pub fall_by_units : List Order → ℕ → List ℤ → ℕ → ℕ
fall_by_units orders reach prices asset = least_amount reach (λ d. not (is_below orders (fallen prices asset d) asset))

-- the prices after a move of an asset by at most `reach` grains; a settled asset isn't moved
unfoldable pub moved_by_units : List Order → ℕ → List ℤ → ℕ → List ℤ
moved_by_units orders reach prices asset =
    if is_above orders prices asset then risen prices asset (rise_by_units orders reach prices asset) else
    (if is_below orders prices asset then fallen prices asset (fall_by_units orders reach prices asset) else prices)

-- by how many grains a move of an asset changes its price, at most `reach`; 0 if the asset is settled
unfoldable pub amount_by_units : List Order → ℕ → List ℤ → ℕ → ℕ
amount_by_units orders reach prices asset =
    if is_above orders prices asset then rise_by_units orders reach prices asset else
    (if is_below orders prices asset then fall_by_units orders reach prices asset else 0)

-- the prices after a move of an asset in a walk
abbrev pub step_by_units : List Order → List ℤ → ℕ → List ℤ
step_by_units orders prices asset = moved_by_units orders walk_reach prices asset

-- a walk from these prices is valid: each asset on it has a price, and is unsettled when it is moved
abbrev pub IsLegalByUnits : List Order → List ℤ → List ℕ → Type 0
IsLegalByUnits orders start walk = IsLegal (length start) (is_unsettled orders) (step_by_units orders) start walk

-- the prices at the end of a walk
abbrev pub end_by_units : List Order → List ℤ → List ℕ → List ℤ
end_by_units orders start walk = walk_end (step_by_units orders) start walk

-- the movement of a walk, in grains: the sum of the amounts of its moves
abbrev pub movement_by_units : List Order → List ℤ → List ℕ → ℕ
movement_by_units orders prices [] = 0
movement_by_units orders prices (asset ∷ walk) = amount_by_units orders walk_reach prices asset + movement_by_units orders (step_by_units orders prices asset) walk

-- what is published of a skip after this walk: the walk, and the dual value at its start and at its end
abbrev pub skipping_by_units : List Order → List ℤ → List ℕ → Skipping
skipping_by_units orders start walk = record { trace = walk; start_dual = pos (dual_of orders start); end_dual = pos (dual_of orders (end_by_units orders start walk)) }

-- a skip is admissible: a valid walk of the whole budget that leaves some asset unsettled, in a book with an order for two assets or more
pub record IsAdmissibleSkipByUnits (orders : List Order) (start : List ℤ) (budget : ℕ) (s : Skipping) : Type 0 where
  pub wide : IsWide orders
  pub legal : IsLegalByUnits orders start s.trace
  pub whole : length s.trace ≡ budget
  pub unsettled : ¬ AreSettled (length start) (is_unsettled orders) (end_by_units orders start s.trace)
  pub duals : s ≡ skipping_by_units orders start s.trace

-- an outcome of a batch is admissible
abbrev pub IsAdmissibleByUnits : List Order → List ℤ → ℕ → Outcome → Type 0
IsAdmissibleByUnits orders start budget (Cleared c) = IsAdmissibleClearing orders start c
IsAdmissibleByUnits orders start budget (Skipped s) = IsAdmissibleSkipByUnits orders start budget s

-- the prices after a visit of each asset of a list: one that is unsettled then is moved, with a reach of 2^61 grains
abbrev pub moved_once_by_units : List Order → List ℕ → List ℤ → List ℤ
moved_once_by_units orders [] prices = prices
moved_once_by_units orders (a ∷ rest) prices = moved_once_by_units orders rest (if is_unsettled orders prices a then moved_by_units orders single_reach prices a else prices)

-- the canonical walk
abbrev pub walk_by_units : List Order → List ℤ → ℕ → List ℕ
walk_by_units orders start budget = walk_in_turn (length start) (is_unsettled orders) (step_by_units orders) budget 0 start

-- all assets are settled at the end of a walk
abbrev pub EndsSettledByUnits : List Order → List ℤ → List ℕ → Type 0
EndsSettledByUnits orders start walk = AreSettled (length start) (is_unsettled orders) (end_by_units orders start walk)

-- the prices that the canonical rule reaches
abbrev pub ArePricesByUnits : Bool → List Order → List ℤ → ℕ → List ℤ → Type 0
ArePricesByUnits true orders start budget end = end ≡ moved_once_by_units orders (visits (length start) 0) start
ArePricesByUnits false orders start budget end = EndsSettledByUnits orders start (walk_by_units orders start budget) × (end ≡ end_by_units orders start (walk_by_units orders start budget))

-- the canonical outcome
abbrev pub IsCanonicalByUnits : List Order → List ℤ → ℕ → Outcome → Type 0
IsCanonicalByUnits orders start budget (Cleared c) =
    ArePricesByUnits (are_single orders) orders start budget c.prices
    × (c ≡ clearing_at (length start) c.prices (trades orders (rates_by_choice (length start) orders c.prices)))
IsCanonicalByUnits orders start budget (Skipped s) =
    (are_single orders ≡ false)
    × (¬ EndsSettledByUnits orders start (walk_by_units orders start budget))
    × (s ≡ skipping_by_units orders start (walk_by_units orders start budget))
