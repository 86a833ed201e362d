-- A move lowers the exact dual value by its amount, and settles its asset within the reach; excess in parts is within that in whole units.
use Rattle.std.proofs.Common.{ℕ, suc, ⊎_elim, ℤ, pos, negsuc, ◌≤ℤ◌, List, sym, subst, arith}
use Rattle.std.specs.Prelude.{All, slice_index_or}
use Rattle.std.proofs.Math.Nat.{mul-le-mul_left}
use Rattle.std.proofs.lemmas.Int.{ints}
use Rattle.weight_rows.specs.Rows.{weight_in}
use Rattle.demand_curve.specs.Demand.{Terms, IsWithinLimits}
use Rattle.demand_curve.proofs.Parts.{parts_enclose_demand}
use Rattle.list_sums.proofs.SumLemmas.{int_sum_by-le}
use Rattle.flow_orders.specs.Orders.{Order, IsOrder, terms_of}
use Rattle.flow_orders.specs.Excess.{price_for, low_part_in, high_part_in}
use Rattle.flow_orders.specs.Moves.{moved, amount_of}
use Rattle.flow_orders.specs.Laws.{MovesLowerTheDual, MovesWithinReachSettle, PartsNarrowExcess}
use Rattle.flow_orders.proofs.Book.{IsConsistent, IsSettled}
use Rattle.flow_orders.proofs.BookLaws.{low_excess-whole, high_excess-whole}
use Rattle.flow_orders.proofs.Moves.{settled_after_rise, settled_after_fall}
use Rattle.flow_orders.proofs.Moving.{moves_by, is_settled}
use Rattle.flow_orders.proofs.DualWalks.{move_lowers_dual}

consistent_each : (orders : List Order) → All IsOrder orders → All IsConsistent orders
consistent_each orders each k d inside = let o = each k d inside in record { limits = o.terms; lawful = o.row }

pub moves_lower_the_dual : MovesLowerTheDual
moves_lower_the_dual parts some N orders reach prices asset each common far within unsettled =
    move_lowers_dual parts some N orders common.1 (consistent_each orders each) prices asset reach (amount_of parts orders reach prices asset) (moved parts orders reach prices asset) within
    (moves_by parts orders reach prices asset far unsettled)

pub moves_within_reach_settle : MovesWithinReachSettle
moves_within_reach_settle parts some orders reach prices asset each within unsettled short =
    let next = moved parts orders reach prices asset in
    let d = amount_of parts orders reach prices asset in
    let consistent = consistent_each orders each in
    is_settled orders next asset (
    ⊎_elim
    (λ rise. ⊎_elim
    (λ after. subst (λ p. IsSettled orders p asset) (sym rise.1) (settled_after_rise parts some orders consistent prices asset reach d within rise.0 after).1)
    (λ all. absurd (omega (arith, all, short)))
    rise.0.ends)
    (λ fall. ⊎_elim
    (λ after. subst (λ p. IsSettled orders p asset) (sym fall.1) (settled_after_fall parts some orders consistent prices asset reach d within fall.0 after).1)
    (λ all. absurd (omega (arith, all, short)))
    fall.0.ends)
    (moves_by parts orders reach prices asset (omega (arith, short)) unsettled)
    )

-- the low part is at most the high part
parts_in_order : (parts : ℕ) (w : ℤ) (t : Terms) → IsWithinLimits t → (c : ℤ) → low_part_in parts w t c ≤ℤ high_part_in parts w t c
parts_in_order parts (pos n) t h c =
    omega (arith, ints, mul-le-mul_left n (parts_enclose_demand parts t h c).floor_first)
parts_in_order parts (negsuc n) t h c =
    omega (arith, ints, mul-le-mul_left (suc n) (parts_enclose_demand parts t h c).floor_first)

pub parts_narrow_excess : PartsNarrowExcess
parts_narrow_excess parts orders prices asset each =
    let consistent = consistent_each orders each in
    record {
      low = low_excess-whole parts orders prices asset consistent;
      between = int_sum_by-le (λ o. low_part_in parts (weight_in o.row asset) (terms_of o) (price_for prices o)) (λ o. high_part_in parts (weight_in o.row asset) (terms_of o) (price_for prices o)) orders
          (λ k d inside.
          let o : Order = slice_index_or orders k d in
          let h : IsConsistent o = consistent k d inside in
          parts_in_order parts (weight_in o.row asset) (terms_of o) h.limits (price_for prices o));
      high = high_excess-whole parts orders prices asset consistent;
    }
