-- The laws of the roundings.
use Rattle.std.proofs.Common.{◌≡◌, ℕ, ◌+◌, ◌*◌, ◌/◌, ◌≤◌, ◌<◌, min, ℤ, pos, ◌+ℤ◌, ◌≤ℤ◌, refl, ◌⊎◌, inl, inr, sym, ap, ◌∙◌, arith}
use Rattle.std.proofs.Math.Nat.{lt_of_mul-lt-mul_right, le_antisymm}
use Rattle.std.proofs.lemmas.Bool.{cases_eq}
use Rattle.demand_curve.specs.Numbers.{distance}
use Rattle.std.specs.Int.{div_ceil}
use Rattle.demand_curve.specs.Demand.{Terms, IsWithinLimits, span, line, scaled_demand, floor_rate, ceil_rate}
use Rattle.demand_curve.specs.Laws.{DemandNeverRises, RoundingsEncloseDemand, IsDemand, WholeDemandIsRoundedOnce, RoundingsAreFloorAndCeil, RoundingIsWithinRoom, RoundingIsExactAtCuts, RoundingsMoveLittle}
use Rattle.demand_curve.proofs.Demands.{scaled_demand_is}
use Rattle.demand_curve.proofs.DemandLaws.{demand-falls, demand_is_cut_at_limits, demand_moves_little}
use Rattle.demand_curve.proofs.Limits.{span_least}
use Rattle.demand_curve.proofs.Quotients.{down_times, up_times}

-- two products with one factor, less than one such factor apart
pub at_most_from_times : (x y S : ℕ) → x * S < y * S + S → x ≤ y
at_most_from_times x y S h =
    let below : x < y + 1 = lt_of_mul-lt-mul_right S (omega arith) in
    omega (arith, below)

-- the demand rounded down, times the span
floor_times : (t : Terms) (price : ℤ) → 0 < span t → (floor_rate t price * span t ≤ scaled_demand t price) × (scaled_demand t price < floor_rate t price * span t + span t)
unfolding floor_rate
floor_times t price h = down_times (scaled_demand t price) (span t) h

-- the demand rounded up, times the span
ceil_times : (t : Terms) (price : ℤ) → 0 < span t → (scaled_demand t price ≤ ceil_rate t price * span t) × (ceil_rate t price * span t < scaled_demand t price + span t)
unfolding ceil_rate
ceil_times t price h = up_times (scaled_demand t price) (span t) h

pub roundings_enclose_demand : RoundingsEncloseDemand
roundings_enclose_demand t h price =
    let positive : 0 < span t = omega (arith, span_least t h) in
    let floor = floor_times t price positive in
    let ceil = ceil_times t price positive in
    record {
      floor_below = floor.0;
      floor_near = floor.1;
      ceil_above = ceil.0;
      ceil_near = ceil.1;
      floor_first = at_most_from_times (floor_rate t price) (ceil_rate t price) (span t) (omega (arith, floor, ceil));
      one_apart = at_most_from_times (ceil_rate t price) (floor_rate t price + 1) (span t) (omega (arith, floor, ceil));
      within_room = at_most_from_times (ceil_rate t price) t.room (span t) (omega (arith, ceil, (demand_is_cut_at_limits t h price).within_room));
    }

pub demand_never_rises : DemandNeverRises
demand_never_rises t h lower higher rise =
    let falls = demand-falls t lower higher rise in
    let above = roundings_enclose_demand t h higher in
    let below = roundings_enclose_demand t h lower in
    record {
      demand = falls;
      floor = at_most_from_times (floor_rate t higher) (floor_rate t lower) (span t) (omega (arith, falls, above.floor_below, below.floor_near));
      ceil = at_most_from_times (ceil_rate t higher) (ceil_rate t lower) (span t) (omega (arith, falls, above.ceil_near, below.ceil_above));
    }

pub whole_demand_is_rounded_once : WholeDemandIsRoundedOnce
whole_demand_is_rounded_once t h price =
    let positive : 0 < span t = omega (arith, span_least t h) in
    let between = roundings_enclose_demand t h price in
    let both : (x : ℕ) → IsDemand t x price → (floor_rate t price ≡ x) × (ceil_rate t price ≡ x) = λ x exact. (
      le_antisymm (at_most_from_times (floor_rate t price) x (span t) (omega (arith, exact, between.floor_below, positive))) (at_most_from_times x (floor_rate t price) (span t) (omega (arith, exact, between.floor_near))),
      le_antisymm (at_most_from_times (ceil_rate t price) x (span t) (omega (arith, exact, between.ceil_near))) (at_most_from_times x (ceil_rate t price) (span t) (omega (arith, exact, between.ceil_above, positive))),
    ) in
    record {
      equal_where_whole = (
        (λ equal. let same = ap (λ y. y * span t) equal in (floor_rate t price, omega (arith, same, between.floor_below, between.ceil_above))),
        (λ whole. let each = both whole.0 whole.1 in each.0 ∙ sym each.1),
      );
      both_are_demand = both;
    }

pub roundings_are_floor_and_ceil : RoundingsAreFloorAndCeil
roundings_are_floor_and_ceil t h price x =
    let positive : 0 < span t = omega (arith, span_least t h) in
    let between = roundings_enclose_demand t h price in (
      (λ rounding.
          let low : floor_rate t price ≤ x = at_most_from_times (floor_rate t price) x (span t) (omega (arith, rounding.less_than_one_below, between.floor_below)) in
          let high : x ≤ ceil_rate t price = at_most_from_times x (ceil_rate t price) (span t) (omega (arith, rounding.less_than_one_above, between.ceil_above)) in
          either_end x (floor_rate t price) (ceil_rate t price) low high between.one_apart),
      (λ one. elim one [
        | inl floor ↦ rw floor (record { less_than_one_above = omega (arith, between.floor_below, positive); less_than_one_below = between.floor_near })
        | inr ceil ↦ rw ceil (record { less_than_one_above = between.ceil_near; less_than_one_below = omega (arith, between.ceil_above, positive) })
      ]),
    )
  where
    either_end : (x low high : ℕ) → low ≤ x → x ≤ high → high ≤ low + 1 → (x ≡ low) ⊎ (x ≡ high)
    either_end x low high p q r = elim (cases_eq x low) [ inl same ↦ inl same | inr apart ↦ inr (omega (arith, apart)) ]

pub rounding_is_within_room : RoundingIsWithinRoom
rounding_is_within_room t h price x rounding =
    at_most_from_times x t.room (span t) (omega (arith, rounding.less_than_one_above, (demand_is_cut_at_limits t h price).within_room))

pub rounding_is_exact_at_cuts : RoundingIsExactAtCuts
rounding_is_exact_at_cuts t h price x rounding =
    record {
      none = λ above.
          let zero = (demand_is_cut_at_limits t h price).none_above above in
          let most : x ≤ 0 = at_most_from_times x 0 (span t) (omega (arith, zero, rounding.less_than_one_above)) in
          omega (arith, most);
      room = λ cut.
          let whole = (demand_is_cut_at_limits t h price).at_room cut in
          le_antisymm (at_most_from_times x t.room (span t) (omega (arith, whole, rounding.less_than_one_above))) (at_most_from_times t.room x (span t) (omega (arith, whole, rounding.less_than_one_below)));
    }

pub roundings_move_little : RoundingsMoveLittle
roundings_move_little t h price grains =
    at_most_from_times (256 * floor_rate t price) (256 * ceil_rate t (price +ℤ pos grains) + grains) (span t)
    (omega (arith, roundings_enclose_demand t h price, roundings_enclose_demand t h (price +ℤ pos grains), demand_moves_little t h price grains))

-- ---- for the code that tests if the demand is cut

-- both roundings of no demand
pub roundings_of_none : (t : Terms) → IsWithinLimits t → (price : ℤ) → t.high ≤ℤ price → (floor_rate t price ≡ 0) × (ceil_rate t price ≡ 0)
roundings_of_none t h price above =
    (whole_demand_is_rounded_once t h price).both_are_demand 0 (omega (arith, (demand_is_cut_at_limits t h price).none_above above))

-- both roundings of the batch maximum
pub roundings_of_room : (t : Terms) → IsWithinLimits t → (price : ℤ) → price ≤ℤ t.low → (floor_rate t price ≡ t.room) × (ceil_rate t price ≡ t.room)
roundings_of_room t h price below =
    (whole_demand_is_rounded_once t h price).both_are_demand t.room (sym ((demand_is_cut_at_limits t h price).whole_below below))

-- both roundings at a price that is so many grains below the high limit
pub roundings_of_line : (t : Terms) (price : ℤ) (below : ℕ) → below ≡ distance t.high price → (floor_rate t price ≡ min (t.rate * below) (t.room * span t) / span t) × (ceil_rate t price ≡ div_ceil (min (t.rate * below) (t.room * span t)) (span t))
unfolding floor_rate ceil_rate line
roundings_of_line t price below same =
    rw (same, scaled_demand_is t price) (refl, refl)
