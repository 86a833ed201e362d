-- Demands that are whole, and what an order then adds to an excess.
use Rattle.std.proofs.Common.{◌≡◌, inl, inr, ℕ, ◌+◌, ◌*◌, ◌≤◌, ◌<◌, min, ℤ, pos, negsuc, ◌+ℤ◌, ◌*ℤ◌, ap, sym, arith}
use Rattle.std.proofs.Math.Nat.{mul-le-mul_left, le_antisymm}
use Rattle.std.proofs.Math.IntN.{pos-*ℤ-pos}
use Rattle.std.proofs.lemmas.Int.{ints}
use Rattle.std.proofs.lemmas.Bool.{cases_lt}
use Rattle.demand_curve.specs.Numbers.{distance}
use Rattle.demand_curve.specs.Demand.{Terms, IsWithinLimits, span, line, scaled_demand, floor_in, ceil_in}
use Rattle.demand_curve.proofs.Distances.{distance_is}
use Rattle.demand_curve.proofs.Demands.{scaled_demand_is}
use Rattle.demand_curve.proofs.Limits.{span_least}
use Rattle.demand_curve.proofs.RoundingLaws.{at_most_from_times, whole_demand_is_rounded_once}
use Rattle.demand_curve.proofs.Parts.{parts_enclose_demand}
use Rattle.flow_orders.specs.Excess.{low_part_in, high_part_in}
use Rattle.flow_orders.specs.WholeUnits.{low_part, high_part}
use Rattle.flow_orders.proofs.Excess.{sold_is}

-- both roundings in parts of a demand of x units
pub parts_of_whole : (parts : ℕ) (t : Terms) → IsWithinLimits t → (c : ℤ) (x : ℕ) → scaled_demand t c ≡ x * span t → (floor_in parts t c ≡ parts * x) × (ceil_in parts t c ≡ parts * x)
parts_of_whole parts t h c x whole =
    let positive : 0 < span t = omega (arith, span_least t h) in
    let between = parts_enclose_demand parts t h c in
    let all = ap (λ y. parts * y) whole in (
      le_antisymm (at_most_from_times (floor_in parts t c) (parts * x) (span t) (omega (arith, all, between.floor_below, positive))) (at_most_from_times (parts * x) (floor_in parts t c) (span t) (omega (arith, all, between.floor_near))),
      le_antisymm (at_most_from_times (ceil_in parts t c) (parts * x) (span t) (omega (arith, all, between.ceil_near))) (at_most_from_times (parts * x) (ceil_in parts t c) (span t) (omega (arith, all, between.ceil_above, positive))),
    )

-- what an order with a demand of x units adds to an excess in parts
pub part_of_whole : (parts : ℕ) (w : ℤ) (t : Terms) → IsWithinLimits t → (c : ℤ) (x : ℕ) → scaled_demand t c ≡ x * span t
    → (low_part_in parts w t c ≡ w *ℤ pos (parts * x)) × (high_part_in parts w t c ≡ w *ℤ pos (parts * x))
part_of_whole parts (pos n) t h c x whole =
    let both = parts_of_whole parts t h c x whole in
    (rw both.0 (sym (pos-*ℤ-pos n (parts * x))), rw both.1 (sym (pos-*ℤ-pos n (parts * x))))
part_of_whole parts (negsuc n) t h c x whole =
    let both = parts_of_whole parts t h c x whole in
    (rw both.1 (sym (sold_is n (parts * x))), rw both.0 (sym (sold_is n (parts * x))))

-- what an order with a demand of x units adds to an excess in units
pub unit_of_whole : (w : ℤ) (t : Terms) → IsWithinLimits t → (c : ℤ) (x : ℕ) → scaled_demand t c ≡ x * span t → (low_part w t c ≡ w *ℤ pos x) × (high_part w t c ≡ w *ℤ pos x)
unit_of_whole (pos n) t h c x whole =
    let both = (whole_demand_is_rounded_once t h c).both_are_demand x (sym whole) in
    (rw both.0 (sym (pos-*ℤ-pos n x)), rw both.1 (sym (pos-*ℤ-pos n x)))
unit_of_whole (negsuc n) t h c x whole =
    let both = (whole_demand_is_rounded_once t h c).both_are_demand x (sym whole) in
    (rw both.1 (sym (sold_is n x)), rw both.0 (sym (sold_is n x)))

-- what is cut from a line that is lower at a higher price is the same there only if it is none, or whole
cut_if_same : (rate far near n room S d e : ℕ) → 1 ≤ rate → 1 ≤ n → near + min n far ≡ far → d ≡ min (rate * far) (room * S) → e ≡ min (rate * near) (room * S) → e ≡ d → (x : ℕ) × (d ≡ x * S)
cut_if_same rate far near n room S d e some moves falls d_is e_is same =
    elim (cases_lt (rate * far) (room * S)) [
      | inl free ↦ elim (cases_lt 0 far) [
        | inl positive ↦
            let less : near + 1 ≤ far = omega (arith, moves, falls, positive) in
            absurd (omega (arith, some, free, d_is, e_is, same, mul-le-mul_left rate less))
        | inr not ↦
            let none : far ≡ 0 = omega (arith, not) in
            let zero_line : rate * far ≡ 0 = rw none (omega arith) in
            (0, omega (arith, d_is, zero_line))
      ]
      | inr cut ↦ (room, omega (arith, d_is, cut))
    ]

-- a demand that is the same at a higher price is none or the batch maximum, a whole number of units
pub whole_if_same : (t : Terms) → IsWithinLimits t → (c : ℤ) (n : ℕ) → 1 ≤ n → scaled_demand t (c +ℤ pos n) ≡ scaled_demand t c → (x : ℕ) × (scaled_demand t c ≡ x * span t)
unfolding line
whole_if_same t h c n moves same =
    let far = distance t.high c in
    let near = distance t.high (c +ℤ pos n) in
    cut_if_same t.rate far near n t.room (span t) (scaled_demand t c) (scaled_demand t (c +ℤ pos n))
    (omega (arith, h.room_least, h.room_most)) moves
    (omega (arith, ints, distance_is t.high c, distance_is t.high (c +ℤ pos n)))
    (scaled_demand_is t c) (scaled_demand_is t (c +ℤ pos n)) same
