-- A move that ends within its reach leaves its asset even.
use Rattle.std.proofs.Common.{◌≡◌, inl, inr, ℕ, zero, suc, ◌<◌, true, ℤ, pos, ◌+ℤ◌, ◌-ℤ◌, ◌≤ℤ◌, ◌<ℤ◌, List, length, set, ap, ◌∙◌, arith}
use Rattle.std.specs.Prelude.{int_lt, int_le}
use Rattle.std.proofs.lemmas.Int.{ints}
use Rattle.std.proofs.lemmas.Bool.{and_parts}
use Rattle.std.proofs.lemmas.List.{set-set}
use Rattle.weight_rows.specs.Rows.{price_of}
use Rattle.flow_orders.specs.Orders.{Order}
use Rattle.flow_orders.specs.Excess.{low_excess_in, high_excess_in}
use Rattle.flow_orders.specs.Moves.{risen, fallen}
use Rattle.flow_orders.proofs.BookSums.{own_price}
use Rattle.flow_orders.proofs.MoveFacts.{above_or_not, below_or_not}
use Rattle.flow_orders.proofs.SingleMoves.{price_of-risen, price_of-fallen}
use Rattle.excess_bounds.specs.declared.directions.Direction.{Direction}
use Rattle.excess_bounds.specs.declared.directions.Direction.TheVariants.{Rise, Fall}
use Rattle.excess_bounds.specs.Directions.{asked_towards, price_towards}
use Rattle.excess_bounds.specs.Ends.{IsEnd}
use Rattle.even_prices.specs.Even.{even_parts, IsEven, is_too_low, is_too_high}
use Rattle.even_prices.specs.Directions.{IsUnevenTowards}
use Rattle.even_prices.specs.Laws.{MovesMakeEven}

module _ (prices : List ℤ) (asset : ℕ) (within : asset < length prices) where
  -- a grain back from a rise, and from a fall
  back_risen : (d : ℕ) → fallen (risen prices asset (suc d)) asset 1 ≡ risen prices asset d
  back_risen d =
      let there = price_of-risen prices asset (suc d) within in
      let value : price_of (risen prices asset (suc d)) asset -ℤ pos 1 ≡ price_of prices asset +ℤ pos d = omega (arith, ints, there) in
      ap (λ x. set (risen prices asset (suc d)) asset x) value ∙ set-set prices asset (price_of prices asset +ℤ pos (suc d)) (price_of prices asset +ℤ pos d)

  back_fallen : (d : ℕ) → risen (fallen prices asset (suc d)) asset 1 ≡ fallen prices asset d
  back_fallen d =
      let there = price_of-fallen prices asset (suc d) within in
      let value : price_of (fallen prices asset (suc d)) asset +ℤ pos 1 ≡ price_of prices asset -ℤ pos d = omega (arith, ints, there) in
      ap (λ x. set (fallen prices asset (suc d)) asset x) value ∙ set-set prices asset (price_of prices asset -ℤ pos (suc d)) (price_of prices asset -ℤ pos d)

  -- no move
  no_rise : risen prices asset 0 ≡ prices
  no_rise =
      let same : price_of prices asset +ℤ pos 0 ≡ price_of prices asset = omega (arith, ints) in
      ap (λ x. set prices asset x) same ∙ own_price prices asset

  no_fall : fallen prices asset 0 ≡ prices
  no_fall =
      let same : price_of prices asset -ℤ pos 0 ≡ price_of prices asset = omega (arith, ints) in
      ap (λ x. set prices asset x) same ∙ own_price prices asset

  module _ (orders : List Order) (reach : ℕ) where
    -- before the last grain of a rise the low excess is above 0
    pub rise_before : (d : ℕ) → is_too_low orders prices asset ≡ true → IsEnd (asked_towards Rise even_parts orders prices asset) (pos 0) reach (suc d)
        → pos 0 <ℤ low_excess_in even_parts orders (risen prices asset d) asset
    rise_before zero uneven end =
        let above = (and_parts (int_lt (pos 0) (low_excess_in even_parts orders prices asset)) (int_le (pos 0) (high_excess_in even_parts orders (risen prices asset 1) asset)) uneven).0 in
        rw no_rise (omega (arith, ints, above))
    rise_before (suc d) uneven end = end.first (suc d) (omega arith) (omega arith)

    pub rise_makes_even : (d : ℕ) → is_too_low orders prices asset ≡ true → IsEnd (asked_towards Rise even_parts orders prices asset) (pos 0) reach (suc d)
        → low_excess_in even_parts orders (risen prices asset (suc d)) asset ≤ℤ pos 0 → IsEven orders (risen prices asset (suc d)) asset
    rise_makes_even d uneven end ended = record {
      not_too_low = inl ended;
      not_too_high = elim (below_or_not 0 (high_excess_in even_parts orders (risen prices asset (suc d)) asset)) [
        | inl below ↦ inr (rw (back_risen d) (rise_before d uneven end))
        | inr not ↦ inl not
      ];
    }

    -- before the last grain of a fall the high excess is below 0
    pub fall_before : (d : ℕ) → is_too_high orders prices asset ≡ true → IsEnd (asked_towards Fall even_parts orders prices asset) (pos 0) reach (suc d)
        → high_excess_in even_parts orders (fallen prices asset d) asset <ℤ pos 0
    fall_before zero uneven end =
        let below = (and_parts (int_lt (high_excess_in even_parts orders prices asset) (pos 0)) (int_le (low_excess_in even_parts orders (fallen prices asset 1) asset) (pos 0)) uneven).0 in
        rw no_fall (omega (arith, ints, below))
    fall_before (suc d) uneven end =
        let before = end.first (suc d) (omega arith) (omega arith) in
        omega (arith, ints, before)

    pub fall_makes_even : (d : ℕ) → is_too_high orders prices asset ≡ true → IsEnd (asked_towards Fall even_parts orders prices asset) (pos 0) reach (suc d)
        → pos 0 ≤ℤ high_excess_in even_parts orders (fallen prices asset (suc d)) asset → IsEven orders (fallen prices asset (suc d)) asset
    fall_makes_even d uneven end ended = record {
      not_too_low = elim (above_or_not 0 (low_excess_in even_parts orders (fallen prices asset (suc d)) asset)) [
        | inl above ↦ inr (rw (back_fallen d) (fall_before d uneven end))
        | inr not ↦ inl not
      ];
      not_too_high = inl ended;
    }

moved_even : (orders : List Order) (prices : List ℤ) (asset reach amount : ℕ) (direction : Direction)
    → asset < length prices → IsUnevenTowards orders prices asset direction
    → IsEnd (asked_towards direction even_parts orders prices asset) (pos 0) reach amount → amount < reach
    → IsEven orders (set prices asset (price_towards direction (price_of prices asset) amount)) asset
moved_even orders prices asset reach zero direction within uneven end inside = absurd (omega (arith, end.least))
moved_even orders prices asset reach (suc d) Rise within uneven end inside =
    rise_makes_even prices asset within orders reach d uneven end (elim end.ends [ inl ended ↦ ended | inr all ↦ absurd (omega (arith, all, inside)) ])
moved_even orders prices asset reach (suc d) Fall within uneven end inside =
    fall_makes_even prices asset within orders reach d uneven end (elim end.ends [ inl ended ↦ omega (arith, ints, ended) | inr all ↦ absurd (omega (arith, all, inside)) ])

pub moves_make_even : MovesMakeEven
moves_make_even = moved_even
