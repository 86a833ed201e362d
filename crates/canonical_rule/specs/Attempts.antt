-- The attempts at prices of a book in which some order names two assets or more: walks in turn, from start prices and from joint prices.
use Rattle.std.specs.Prelude.{◌≡◌, ℕ, ◌*◌, ◌==◌, min, Bool, true, false, not, if◌then◌else◌, ◌⊎◌, ℤ, List, [], ◌∷◌, ◌++◌, map, length}
use Rattle.std.specs.List.{range_with_len, list_all}
use Rattle.weight_rows.specs.Rows.{price_of}
use Rattle.flow_orders.specs.Orders.{Order}
use Rattle.flow_orders.specs.Excess.{is_unsettled, spread}
use Rattle.flow_orders.specs.Outcomes.{step_of, end_of, EndsSettled}
use Rattle.flow_orders.specs.declared.search.Search.{Search}
use Rattle.joint_prices.specs.Numbers.{within}
use Rattle.joint_prices.specs.Steps.{joint_prices}
use Rattle.canonical_rule.specs.Turns.{walk_in_turn}

-- the canonical walk: the walk in turn from the lowest asset that is unsettled on, of at most `budget` moves
abbrev pub canonical_walk : ℕ → List Order → List ℤ → ℕ → List ℕ
canonical_walk parts orders start budget = walk_in_turn (length start) (is_unsettled orders) (step_of parts orders) budget 0 start

-- a search by parts of a unit, without joint prices and with them
abbrev pub walks_alone : ℕ → Search
walks_alone parts = record { parts = parts; joint = false }

abbrev pub with_joint_prices : ℕ → Search
with_joint_prices parts = record { parts = parts; joint = true }

-- an attempt: the prices from which a canonical walk starts, and its budget of moves
pub record Attempt : Type 0 where
  pub from : List ℤ
  pub budget : ℕ

-- whether all of n assets are settled at prices
abbrev pub are_settled : List Order → ℕ → List ℤ → Bool
are_settled orders n prices = list_all (λ a. not (is_unsettled orders prices a)) (range_with_len 0 n)

-- an asset's price in an attempt from joint prices: cut to within 2^60 grains of 0, or its start price if no order names it
abbrev pub joint_price : List Order → List ℤ → List ℤ → ℕ → ℤ
joint_price orders start found asset = if spread orders asset == 0 then price_of start asset else within 60 (price_of found asset)

-- the prices from which an attempt from joint prices starts
unfoldable pub joint_start : List Order → List ℤ → List ℤ
joint_start orders start =
    map (joint_price orders start (joint_prices (are_settled orders (length start)) orders start)) (range_with_len 0 (length start))

-- the attempts with which joint prices are tried, if they are: from the start prices with at most 16 moves for each asset, and then from
-- the joint prices with the whole budget
abbrev pub joint_attempts : Bool → List Order → List ℤ → ℕ → List Attempt
joint_attempts false orders start budget = []
joint_attempts true orders start budget =
    record { from = start; budget = min budget (16 * length start) } ∷ record { from = joint_start orders start; budget = budget } ∷ []

-- the attempts in their order: those with joint prices, and then one from the start prices with the whole budget
abbrev pub attempts : Bool → List Order → List ℤ → ℕ → List Attempt
attempts joint orders start budget = joint_attempts joint orders start budget ++ record { from = start; budget = budget } ∷ []

-- all assets are settled at the end of an attempt's walk
abbrev pub Succeeds : ℕ → List Order → Attempt → Type 0
Succeeds parts orders a = EndsSettled parts orders a.from (canonical_walk parts orders a.from a.budget)

-- the prices at the end of an attempt's walk
abbrev pub end_of_attempt : ℕ → List Order → Attempt → List ℤ
end_of_attempt parts orders a = end_of parts orders a.from (canonical_walk parts orders a.from a.budget)

-- the prices at the end of the first attempt of a list that succeeds
abbrev pub EndsFirst : ℕ → List Order → List Attempt → List ℤ → Type 0
EndsFirst parts orders [] end = ⊥
EndsFirst parts orders (a ∷ rest) end =
    (Succeeds parts orders a × (end ≡ end_of_attempt parts orders a)) ⊎ ((¬ Succeeds parts orders a) × EndsFirst parts orders rest end)

-- no attempt of a list succeeds
abbrev pub NoneSucceeds : ℕ → List Order → List Attempt → Type 0
NoneSucceeds parts orders [] = Unit {0}
NoneSucceeds parts orders (a ∷ rest) = (¬ Succeeds parts orders a) × NoneSucceeds parts orders rest
