-- Definitions that only private functions use.
use Rattle.std.specs.Prelude.{◌≡◌, ℕ, ◌+◌, ◌-◌, ◌<◌, ◌≤◌, ◌==◌, List, [], ◌∷◌, length, map, slice_index_or}
use Rattle.std.specs.List.{filter, range_with_len}
use Rattle.flow_orders.specs.Orders.{Order}
use Rattle.flow_orders.specs.Outcomes.{Fill}
use Rattle.desk_messages.specs.declared.counts.Tally.{Tally}

-- counts are part of these in all
pub record IsWithin (total t : Tally) : Type 0 where
  pub lines : t.lines ≤ total.lines
  pub messages : t.messages ≤ total.messages

-- the accounts that orders are of
abbrev pub owners : List Order → List ℕ
owners orders = map (λ (o : Order). o.account) orders

-- the places of an account's own orders from a place on, of so many
abbrev pub own_places : ℕ → List ℕ → (from count : ℕ) → List ℕ
own_places account owners from count = filter (λ place. slice_index_or owners place 0 == account) (range_with_len from count)

-- Orders at these places follow one another from the first on. An order is named by how many orders are from it to the end of the book, and 0 is none; `nexts` has
-- what follows each, which is nearer to the end.
abbrev pub IsChain : (count : ℕ) → (nexts : List ℕ) → (first : ℕ) → List ℕ → Type 0
IsChain count nexts first [] = first ≡ 0
IsChain count nexts first (place ∷ more) =
    (place + first ≡ count) × (0 < first) × (first ≤ length nexts) × (slice_index_or nexts (first - 1) 0 < first) × IsChain count nexts (slice_index_or nexts (first - 1) 0) more

-- the orders of each account follow one another, from the first of each
pub record AreLinked (orders : List Order) (accounts : ℕ) (firsts nexts : List ℕ) : Type 0 where
  pub all : length nexts ≡ length orders
  pub each : length firsts ≡ accounts
  pub chains : (account : ℕ) → account < accounts
      → IsChain (length orders) nexts (slice_index_or firsts account 0) (own_places (account + 1) (owners orders) 0 (length orders))

-- the rate at a place, and none where there is none
abbrev pub rate_in : List Fill → ℕ → ℕ
rate_in fills place = slice_index_or (map (λ (f : Fill). f.rate) fills) place 0
