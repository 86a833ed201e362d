-- In a book of one-asset orders a move with a long reach ends within 2^60 and settles its asset.
use Rattle.std.proofs.Common.{◌≡◌, ℕ, zero, suc, ◌+◌, ◌^◌, ◌≤◌, ◌<◌, inl, inr, ℤ, pos, ◌+ℤ◌, ◌-ℤ◌, ◌≤ℤ◌, List, length, arith}
use Rattle.std.specs.Prelude.{All, neg_ℤ}
use Rattle.std.proofs.lemmas.Int.{ints}
use Rattle.std.proofs.lemmas.Bool.{cases_lt}
use Rattle.std.proofs.lemmas.List.{get_or-set_same}
use borrow.Author.Differences.{up, down}
use Rattle.weight_rows.specs.Rows.{price_of}
use Rattle.demand_curve.specs.Demand.{IsWithin}
use Rattle.flow_orders.specs.Orders.{Order}
use Rattle.flow_orders.proofs.Book.{IsConsistent, IsSettled}
use Rattle.flow_orders.specs.Excess.{low_excess_in, high_excess_in}
use Rattle.flow_orders.specs.Moves.{risen, fallen}
use Rattle.flow_orders.proofs.Moves.{IsRise, IsFall, rise_before, fall_before, settled_after_rise, settled_after_fall}
use Rattle.flow_orders.proofs.Singles.{IsSingle, low_excess-none, high_excess-none}

-- the asset's price after a rise
pub price_of-risen : (prices : List ℤ) (asset d : ℕ) → asset < length prices → price_of (risen prices asset d) asset ≡ price_of prices asset +ℤ pos d
price_of-risen prices asset d within = get_or-set_same prices asset (price_of prices asset +ℤ pos d) (pos 0) within

pub price_of-fallen : (prices : List ℤ) (asset d : ℕ) → asset < length prices → price_of (fallen prices asset d) asset ≡ price_of prices asset -ℤ pos d
price_of-fallen prices asset d within = get_or-set_same prices asset (price_of prices asset -ℤ pos d) (pos 0) within

module _ (parts : ℕ) (some : 1 ≤ parts) (orders : List Order) (prices : List ℤ) (asset reach : ℕ) (consistent : All IsConsistent orders) (single : All IsSingle orders) (within : asset < length prices) where
  -- after a rise to 2^60 or more the low excess is at most 0
  low-none : (d : ℕ) → pos (2 ^ 60) ≤ℤ (price_of prices asset +ℤ pos d) → low_excess_in parts orders (risen prices asset d) asset ≤ℤ pos 0
  low-none d high = low_excess-none parts orders (risen prices asset d) asset consistent single (rw (price_of-risen prices asset d within) high)

  -- after a fall to -2^60 or less the high excess is at least 0
  high-none : (d : ℕ) → (price_of prices asset -ℤ pos d) ≤ℤ neg_ℤ (pos (2 ^ 60)) → pos 0 ≤ℤ high_excess_in parts orders (fallen prices asset d) asset
  high-none d low = high_excess-none parts orders (fallen prices asset d) asset consistent single (rw (price_of-fallen prices asset d within) low)

  -- a rise ends at 2^60 or below
  pub rise_ends_within : (d : ℕ) → IsRise parts orders prices asset reach d → (price_of prices asset +ℤ pos d) ≤ℤ pos (2 ^ 60)
  rise_ends_within zero move = absurd (omega (arith, move.least))
  rise_ends_within (suc e) move =
      let before = rise_before parts some orders consistent prices asset reach e move in
      elim (cases_lt (up (price_of prices asset) + e) (2 ^ 60 + down (price_of prices asset))) [
        | inl below ↦ omega (arith, ints, below)
        | inr high ↦ let none = low-none e (omega (arith, ints, high)) in absurd (omega (arith, ints, none, before))
      ]

  -- a fall ends at -2^60 or above
  pub fall_ends_within : (d : ℕ) → IsFall parts orders prices asset reach d → neg_ℤ (pos (2 ^ 60)) ≤ℤ (price_of prices asset -ℤ pos d)
  fall_ends_within zero move = absurd (omega (arith, move.least))
  fall_ends_within (suc e) move =
      let before = fall_before parts some orders consistent prices asset reach e move in
      elim (cases_lt (down (price_of prices asset) + e) (2 ^ 60 + up (price_of prices asset))) [
        | inl above ↦ omega (arith, ints, above)
        | inr low ↦ let none = high-none e (omega (arith, ints, low)) in absurd (omega (arith, ints, none, before))
      ]

  -- a rise from within 2^60 with a reach of 2^61 or more settles the asset
  pub rise_settles : (d : ℕ) → IsWithin (2 ^ 60) (price_of prices asset) → 2 ^ 61 ≤ reach → IsRise parts orders prices asset reach d → IsSettled orders (risen prices asset d) asset
  rise_settles d start far move =
      elim move.ends [
        | inl after ↦ (settled_after_rise parts some orders consistent prices asset reach d within move after).1
        | inr all ↦
            let none = low-none d (omega (arith, ints, start, all, far)) in
            (settled_after_rise parts some orders consistent prices asset reach d within move (omega (arith, ints, none))).1
      ]

  -- a fall from within 2^60 with a reach of 2^61 or more settles the asset
  pub fall_settles : (d : ℕ) → IsWithin (2 ^ 60) (price_of prices asset) → 2 ^ 61 ≤ reach → IsFall parts orders prices asset reach d → IsSettled orders (fallen prices asset d) asset
  fall_settles d start far move =
      elim move.ends [
        | inl after ↦ (settled_after_fall parts some orders consistent prices asset reach d within move after).1
        | inr all ↦
            let none = high-none d (omega (arith, ints, start, all, far)) in
            (settled_after_fall parts some orders consistent prices asset reach d within move (omega (arith, ints, none))).1
      ]
