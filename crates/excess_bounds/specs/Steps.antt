-- Definitions for private functions: what orders ask for between two amounts by which the price of an asset moves.
use Rattle.std.specs.Prelude.{◌≡◌, ◌⊎◌, ℕ, ◌+◌, ◌*◌, ◌^◌, ◌≤◌, ◌<◌, ℤ, pos, neg_ℤ, ◌+ℤ◌, ◌*ℤ◌, ◌≤ℤ◌, ◌<ℤ◌, unsigned_abs, Bool, if◌then◌else◌, List, [], ◌∷◌, length, All}
use Rattle.std.specs.Ordering.{int_eq}
use Rattle.list_sums.specs.Sums.{int_sum_by}
use Rattle.weight_rows.specs.Rows.{most_weight}
use Rattle.demand_curve.specs.Curve.{terms}
use Rattle.flow_orders.specs.Excess.{low_part_in}
use Rattle.excess_bounds.specs.declared.columns.Cell.{Cell}
use Rattle.excess_bounds.specs.declared.directions.Direction.{Direction}
use Rattle.excess_bounds.specs.declared.directions.Direction.TheVariants.{Rise, Fall}
use Rattle.excess_bounds.specs.declared.steps.Step.{Step}
use Rattle.excess_bounds.specs.Quotes.{Quote}
use Rattle.excess_bounds.specs.Private.{low_after, StaysInRange}

-- what a step asks for after an amount, in its parts of a unit
abbrev pub part_after : ℕ → Step → ℤ
part_after amount s = low_part_in s.parts s.weight (terms s.curve) (s.price +ℤ s.weight *ℤ pos amount)

-- a step after an amount was looked at
abbrev pub looked : ℕ → Step → Step
looked amount s = record { curve = s.curve; price = s.price; parts = s.parts; weight = s.weight; pull = s.pull; first = s.first; last = s.last; here = part_after amount s }

-- a step after the amount that was looked at last became its low end, or its high end
abbrev pub closed : Bool → Step → Step
closed is_low s =
    if is_low then record { curve = s.curve; price = s.price; parts = s.parts; weight = s.weight; pull = s.pull; first = s.here; last = s.last; here = s.here } else
    record { curve = s.curve; price = s.price; parts = s.parts; weight = s.weight; pull = s.pull; first = s.first; last = s.here; here = s.here }

-- the steps that ask for more at the low end than at the high one
abbrev pub still_open : List Step → List Step
still_open [] = []
still_open (s ∷ steps) = if int_eq s.first s.last then still_open steps else s ∷ still_open steps

-- what the steps that ask for the same at both ends ask for together
abbrev pub settled_sum : List Step → ℤ
settled_sum [] = pos 0
settled_sum (s ∷ steps) = if int_eq s.first s.last then s.first +ℤ settled_sum steps else settled_sum steps

-- a step can be looked at after an amount: it has 1 to 256 parts and no large weight, and the price stays in range
pub record CanLook (amount : ℕ) (s : Step) : Type 0 where
  pub some : 1 ≤ s.parts
  pub few : s.parts ≤ 256
  pub light : unsigned_abs s.weight ≤ most_weight
  pub start : unsigned_abs s.price ≤ 2 ^ 78
  pub stays : unsigned_abs (s.price +ℤ s.weight *ℤ pos amount) ≤ 2 ^ 78

-- the ends of a step are small
pub record IsSmall (s : Step) : Type 0 where
  pub first : unsigned_abs s.first ≤ 2 ^ 44
  pub last : unsigned_abs s.last ≤ 2 ^ 44
  pub here : unsigned_abs s.here ≤ 2 ^ 44

-- a step for amounts from `low` to `high`: after each of them it asks for at most its first and at least its last
pub record IsStep (low high : ℕ) (s : Step) : Type 0 where
  pub some : 1 ≤ s.parts
  pub few : s.parts ≤ 256
  pub light : unsigned_abs s.weight ≤ most_weight
  pub stays : (m : ℕ) → m ≤ high → unsigned_abs (s.price +ℤ s.weight *ℤ pos m) ≤ 2 ^ 78
  pub within : (m : ℕ) → low ≤ m → m ≤ high → (s.last ≤ℤ part_after m s) × (part_after m s ≤ℤ s.first)
  pub small : IsSmall s

-- after each amount between both ends, what is asked for is the rest and what the steps ask for; both are of at most `most` orders
pub record IsNarrowed (asked : ℕ → ℤ) (steps : List Step) (rest : ℤ) (most low high : ℕ) : Type 0 where
  pub sum : (m : ℕ) → low ≤ m → m ≤ high → asked m ≡ rest +ℤ int_sum_by (part_after m) steps
  pub each : All (IsStep low high) steps
  pub room : unsigned_abs rest + length steps * 2 ^ 44 ≤ most * 2 ^ 44

-- two amounts between which a move ends: up to the low one more than the bound is asked for; after the high one it isn't, or that is the reach
pub record IsBracket (asked : ℕ → ℤ) (bound : ℤ) (reach low high : ℕ) : Type 0 where
  pub some : low < high
  pub most : high ≤ reach
  pub goes_on : (d : ℕ) → 1 ≤ d → d ≤ low → bound <ℤ asked d
  pub ends : (asked high ≤ℤ bound) ⊎ (high ≡ reach)

-- how many amounts in a row may leave more than half of a bracket; the next one is its middle
abbrev pub most_slow : ℕ
most_slow = 3

-- a cell, with the opposite weight if the price falls
abbrev pub turned : Direction → Cell → Cell
turned Rise c = c
turned Fall c = record { place = c.place; weight = neg_ℤ c.weight }

-- what the orders of a column ask for after an amount, in parts of a unit
abbrev pub asked_after : ℕ → List Quote → Direction → List Cell → ℕ → ℤ
asked_after parts quotes direction cells amount = int_sum_by (λ c. low_after parts quotes (pos amount) (turned direction c)) cells

-- the price of a cell's order stays in range for amounts up to `reach`
abbrev pub CanMove : List Quote → Direction → ℕ → Cell → Type 0
CanMove quotes direction reach c = (m : ℕ) → m ≤ reach → StaysInRange quotes (pos m) (turned direction c)
