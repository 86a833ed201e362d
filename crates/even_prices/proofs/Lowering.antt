-- What a move makes of the exact dual value.
use Rattle.std.proofs.Common.{◌≡◌, ℕ, zero, suc, ◌+◌, ◌-◌, ◌*◌, ◌≤◌, ◌<◌, ℤ, pos, negsuc, ◌+ℤ◌, ◌-ℤ◌, ◌*ℤ◌, ◌≤ℤ◌, ◌<ℤ◌, List, length, arith}
use Rattle.std.specs.Prelude.{All, neg_ℤ}
use Rattle.std.proofs.Math.Nat.{mul-le-mul_left}
use Rattle.std.proofs.Math.IntN.{pos-*ℤ-pos, zero-*ℤ}
use Rattle.std.proofs.lemmas.Int.{ints}
use Rattle.weight_rows.specs.Rows.{price_of}
use Rattle.flow_orders.specs.Orders.{Order, IsOrder}
use Rattle.flow_orders.specs.Excess.{low_excess_in, high_excess_in, steepness}
use Rattle.flow_orders.specs.Moves.{risen, fallen}
use Rattle.flow_orders.specs.Duals.{IsCommonPart, exact_dual}
use Rattle.flow_orders.proofs.BookSums.{own_price}
use Rattle.flow_orders.proofs.Progress.{true_excess, low_excess_in-below, high_excess_in-above, dual_falls_by_excess, grain_rises, grain_falls, times_keeps}
use Rattle.excess_bounds.specs.declared.directions.Direction.{Direction}
use Rattle.excess_bounds.specs.declared.directions.Direction.TheVariants.{Rise, Fall}
use Rattle.excess_bounds.specs.Directions.{asked_towards}
use Rattle.excess_bounds.specs.Ends.{IsEnd}
use Rattle.even_prices.specs.Even.{even_parts}
use Rattle.even_prices.specs.Directions.{IsUnevenTowards}
use Rattle.even_prices.specs.Laws.{moved_by, EvenMovesLowerTheDual}
use Rattle.even_prices.proofs.EvenLaws.{all_consistent}
use Rattle.even_prices.proofs.MovedEven.{rise_before, fall_before}

-- a true excess of a part of a unit or more, and one of minus a part or less
above_part : (N : ℕ) (low z : ℤ) → pos 0 <ℤ low → (pos N *ℤ low) ≤ℤ (pos even_parts *ℤ z) → pos N ≤ℤ (pos even_parts *ℤ z)
above_part N low z some below =
    let least = times_keeps N (pos 1) low (omega (arith, ints, some)) in
    omega (arith, ints, least, below)

below_part : (N : ℕ) (high z : ℤ) → high <ℤ pos 0 → (pos even_parts *ℤ z) ≤ℤ (pos N *ℤ high) → (pos even_parts *ℤ z) ≤ℤ neg_ℤ (pos N)
below_part N high z some above =
    let most = times_keeps N high (negsuc 0) (omega (arith, ints, some)) in
    omega (arith, ints, most, above)

-- a dual value that falls by so many times the excess
falls_by : (N A B d : ℕ) (z : ℤ) → 1 ≤ N → pos N ≤ℤ (pos even_parts *ℤ z) → (pos A +ℤ pos d *ℤ z) ≤ℤ pos B → even_parts * A + N * d ≤ even_parts * B
falls_by N A B d (pos m) some part falls =
    let least : N ≤ even_parts * m = omega (arith, ints, part) in
    let fallen : A + d * m ≤ B = omega (arith, ints, falls, pos-*ℤ-pos d m) in
    omega (arith, fallen, mul-le-mul_left d least)
falls_by N A B d (negsuc m) some part falls = absurd (omega (arith, ints, some, part))

rises_by : (N A B d : ℕ) (z : ℤ) → 1 ≤ N → (pos even_parts *ℤ z) ≤ℤ neg_ℤ (pos N) → (pos A +ℤ neg_ℤ (pos d) *ℤ z) ≤ℤ pos B → even_parts * A + N * d ≤ even_parts * B
rises_by N A B zero z some part falls =
    let fallen : A ≤ B = omega (arith, ints, falls, zero-*ℤ z) in
    omega (arith, fallen)
rises_by N A B (suc d) (pos m) some part falls = absurd (omega (arith, ints, some, part))
rises_by N A B (suc d) (negsuc m) some part falls =
    let least : N ≤ even_parts * suc m = omega (arith, ints, part) in
    let fallen : A + suc d * suc m ≤ B = omega (arith, ints, falls) in
    omega (arith, fallen, mul-le-mul_left (suc d) least)

module _ (N : ℕ) (orders : List Order) (common : IsCommonPart N orders) (each : All IsOrder orders) (prices : List ℤ) (asset reach : ℕ) (within : asset < length prices) where
  -- after a rise by d, of which the low excess is still above 0
  rise_lowers : (d : ℕ) → pos 0 <ℤ low_excess_in even_parts orders (risen prices asset d) asset
      → (even_parts * exact_dual N orders (risen prices asset d) + N * d ≤ even_parts * exact_dual N orders prices)
      × (2 * exact_dual N orders (risen prices asset (suc d)) ≤ 2 * exact_dual N orders (risen prices asset d) + N * steepness orders asset)
  rise_lowers d above =
      let consistent = all_consistent orders each in
      let p = price_of prices asset in
      let excess = true_excess N orders (risen prices asset d) asset in
      let part = above_part N (low_excess_in even_parts orders (risen prices asset d) asset) excess above (low_excess_in-below N orders common.1 consistent even_parts (risen prices asset d) asset) in
      let far : p +ℤ pos d -ℤ p ≡ pos d = omega (arith, ints) in
      let falls = rw (far, own_price prices asset) at (dual_falls_by_excess N orders consistent prices asset p (p +ℤ pos d) within) in
      let next : p +ℤ pos d +ℤ pos 1 ≡ p +ℤ pos (suc d) = omega (arith, ints) in
      let last = rw next at (grain_rises N orders common.1 consistent prices asset (p +ℤ pos d) within) in
      (falls_by N (exact_dual N orders (risen prices asset d)) (exact_dual N orders prices) d excess common.0 part falls, omega (arith, ints, last, part))

  -- after a fall by d, of which the high excess is still below 0
  fall_lowers : (d : ℕ) → high_excess_in even_parts orders (fallen prices asset d) asset <ℤ pos 0
      → (even_parts * exact_dual N orders (fallen prices asset d) + N * d ≤ even_parts * exact_dual N orders prices)
      × (2 * exact_dual N orders (fallen prices asset (suc d)) ≤ 2 * exact_dual N orders (fallen prices asset d) + N * steepness orders asset)
  fall_lowers d below =
      let consistent = all_consistent orders each in
      let p = price_of prices asset in
      let excess = true_excess N orders (fallen prices asset d) asset in
      let part = below_part N (high_excess_in even_parts orders (fallen prices asset d) asset) excess below (high_excess_in-above N orders common.1 consistent even_parts (fallen prices asset d) asset) in
      let far : p -ℤ pos d -ℤ p ≡ neg_ℤ (pos d) = omega (arith, ints) in
      let falls = rw (far, own_price prices asset) at (dual_falls_by_excess N orders consistent prices asset p (p -ℤ pos d) within) in
      let next : p -ℤ pos (suc d) +ℤ pos 1 ≡ p -ℤ pos d = omega (arith, ints) in
      let last = rw next at (grain_falls N orders common.1 consistent prices asset (p -ℤ pos (suc d)) within) in
      (rises_by N (exact_dual N orders (fallen prices asset d)) (exact_dual N orders prices) d excess common.0 part falls, omega (arith, ints, last, part))

lowers : (N : ℕ) (orders : List Order) (prices : List ℤ) (asset reach amount : ℕ) (direction : Direction)
    → All IsOrder orders → IsCommonPart N orders → asset < length prices → IsUnevenTowards orders prices asset direction
    → IsEnd (asked_towards direction even_parts orders prices asset) (pos 0) reach amount
    → (even_parts * exact_dual N orders (moved_by direction prices asset (amount - 1)) + N * (amount - 1) ≤ even_parts * exact_dual N orders prices)
    × (2 * exact_dual N orders (moved_by direction prices asset amount) ≤ 2 * exact_dual N orders (moved_by direction prices asset (amount - 1)) + N * steepness orders asset)
lowers N orders prices asset reach zero direction each common within uneven end = absurd (omega (arith, end.least))
lowers N orders prices asset reach (suc d) Rise each common within uneven end =
    let one : suc d - 1 ≡ d = omega arith in
    rw one (rise_lowers N orders common each prices asset reach within d (rise_before prices asset within orders reach d uneven end))
lowers N orders prices asset reach (suc d) Fall each common within uneven end =
    let one : suc d - 1 ≡ d = omega arith in
    rw one (fall_lowers N orders common each prices asset reach within d (fall_before prices asset within orders reach d uneven end))

pub even_moves_lower_the_dual : EvenMovesLowerTheDual
even_moves_lower_the_dual = lowers
