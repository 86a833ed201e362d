-- The laws of the roundings in parts of a unit.
use Rattle.std.proofs.Common.{◌≡◌, ℕ, ◌+◌, ◌*◌, ◌/◌, ◌^◌, ◌≤◌, ◌<◌, min, ℤ, pos, ◌+ℤ◌, ◌≤ℤ◌, refl, ap, ◌∙◌, arith}
use Rattle.std.proofs.Math.Nat.{mul-le-mul_left, le_antisymm, mul-div_cancel}
use Rattle.std.proofs.lemmas.Nat.{mul-le}
use Rattle.demand_curve.specs.Numbers.{distance}
use Rattle.std.specs.Int.{div_ceil}
use Rattle.demand_curve.specs.Demand.{Terms, IsWithinLimits, span, line, scaled_demand, floor_rate, ceil_rate, floor_in, ceil_in}
use Rattle.demand_curve.specs.Laws.{PartsEncloseDemand, PartsNeverRise, PartsMoveLittle, OnePartIsAUnit}
use Rattle.demand_curve.proofs.Demands.{scaled_demand_is}
use Rattle.demand_curve.proofs.DemandLaws.{demand-falls, demand_is_cut_at_limits, demand_moves_little}
use Rattle.demand_curve.proofs.RoundingLaws.{at_most_from_times, roundings_enclose_demand}
use Rattle.demand_curve.proofs.Limits.{span_least}
use Rattle.demand_curve.proofs.Quotients.{down_times, up_times, up_multiple}

-- the demand in parts, rounded down, times the span
floor_times : (parts : ℕ) (t : Terms) (price : ℤ) → 0 < span t → (floor_in parts t price * span t ≤ parts * scaled_demand t price) × (parts * scaled_demand t price < floor_in parts t price * span t + span t)
unfolding floor_in
floor_times parts t price h = down_times (parts * scaled_demand t price) (span t) h

-- the demand in parts, rounded up, times the span
ceil_times : (parts : ℕ) (t : Terms) (price : ℤ) → 0 < span t → (parts * scaled_demand t price ≤ ceil_in parts t price * span t) × (ceil_in parts t price * span t < parts * scaled_demand t price + span t)
unfolding ceil_in
ceil_times parts t price h = up_times (parts * scaled_demand t price) (span t) h

pub parts_enclose_demand : PartsEncloseDemand
parts_enclose_demand parts t h price =
    let positive : 0 < span t = omega (arith, span_least t h) in
    let floor = floor_times parts t price positive in
    let ceil = ceil_times parts t price positive in
    let whole = roundings_enclose_demand t h price in
    record {
      floor_below = floor.0;
      floor_near = floor.1;
      ceil_above = ceil.0;
      ceil_near = ceil.1;
      floor_first = at_most_from_times (floor_in parts t price) (ceil_in parts t price) (span t) (omega (arith, floor, ceil));
      one_apart = at_most_from_times (ceil_in parts t price) (floor_in parts t price + 1) (span t) (omega (arith, floor, ceil));
      within_room = at_most_from_times (ceil_in parts t price) (parts * t.room) (span t) (omega (arith, ceil, mul-le-mul_left parts (demand_is_cut_at_limits t h price).within_room));
      whole_floor = at_most_from_times (parts * floor_rate t price) (floor_in parts t price) (span t) (omega (arith, floor, mul-le-mul_left parts whole.floor_below));
      whole_ceil = at_most_from_times (ceil_in parts t price) (parts * ceil_rate t price) (span t) (omega (arith, ceil, mul-le-mul_left parts whole.ceil_above));
    }

pub parts_never_rise : PartsNeverRise
parts_never_rise parts t h lower higher rise =
    let falls = mul-le-mul_left parts (demand-falls t lower higher rise) in
    let above = parts_enclose_demand parts t h higher in
    let below = parts_enclose_demand parts t h lower in (
      at_most_from_times (floor_in parts t higher) (floor_in parts t lower) (span t) (omega (arith, falls, above.floor_below, below.floor_near)),
      at_most_from_times (ceil_in parts t higher) (ceil_in parts t lower) (span t) (omega (arith, falls, above.ceil_near, below.ceil_above)),
    )

pub parts_move_little : PartsMoveLittle
parts_move_little parts t h price grains =
    let before = parts_enclose_demand parts t h price in
    let after = parts_enclose_demand parts t h (price +ℤ pos grains) in
    let positive : 0 < span t = omega (arith, span_least t h) in
    at_most_from_times (256 * floor_in parts t price) (256 * ceil_in parts t (price +ℤ pos grains) + parts * grains) (span t)
    (omega (arith, before.floor_below, after.ceil_above, positive, mul-le-mul_left parts (demand_moves_little t h price grains)))

pub one_part_is_a_unit : OnePartIsAUnit
unfolding floor_in ceil_in floor_rate ceil_rate
one_part_is_a_unit t price =
    let one : 1 * scaled_demand t price ≡ scaled_demand t price = omega arith in
    (ap (λ n. n / span t) one, ap (λ n. div_ceil n (span t)) one)

-- ---- for the code that tests if the demand is cut

-- both roundings of a demand that is a whole number
roundings_of_whole : (parts : ℕ) (t : Terms) → IsWithinLimits t → (price : ℤ) (x : ℕ) → scaled_demand t price ≡ x * span t → (floor_in parts t price ≡ parts * x) × (ceil_in parts t price ≡ parts * x)
roundings_of_whole parts t h price x whole =
    let positive : 0 < span t = omega (arith, span_least t h) in
    let between = parts_enclose_demand parts t h price in
    let all = ap (λ y. parts * y) whole in (
      le_antisymm (at_most_from_times (floor_in parts t price) (parts * x) (span t) (omega (arith, all, between.floor_below, positive))) (at_most_from_times (parts * x) (floor_in parts t price) (span t) (omega (arith, all, between.floor_near))),
      le_antisymm (at_most_from_times (ceil_in parts t price) (parts * x) (span t) (omega (arith, all, between.ceil_near))) (at_most_from_times (parts * x) (ceil_in parts t price) (span t) (omega (arith, all, between.ceil_above, positive))),
    )

-- both roundings of no demand
pub parts_of_none : (parts : ℕ) (t : Terms) → IsWithinLimits t → (price : ℤ) → t.high ≤ℤ price → (floor_in parts t price ≡ 0) × (ceil_in parts t price ≡ 0)
parts_of_none parts t h price above =
    let both = roundings_of_whole parts t h price 0 (omega (arith, (demand_is_cut_at_limits t h price).none_above above)) in
    let none : parts * 0 ≡ 0 = omega arith in
    (both.0 ∙ none, both.1 ∙ none)

-- both roundings of the batch maximum
pub parts_of_room : (parts : ℕ) (t : Terms) → IsWithinLimits t → (price : ℤ) → price ≤ℤ t.low → (floor_in parts t price ≡ parts * t.room) × (ceil_in parts t price ≡ parts * t.room)
parts_of_room parts t h price below = roundings_of_whole parts t h price t.room ((demand_is_cut_at_limits t h price).whole_below below)

-- both roundings at a price that is so many grains below the high limit
pub parts_of_line : (parts : ℕ) (t : Terms) (price : ℤ) (below : ℕ) → below ≡ distance t.high price → (floor_in parts t price ≡ parts * min (t.rate * below) (t.room * span t) / span t) × (ceil_in parts t price ≡ div_ceil (parts * min (t.rate * below) (t.room * span t)) (span t))
unfolding floor_in ceil_in line
parts_of_line parts t price below same =
    rw (same, scaled_demand_is t price) (refl, refl)

-- a fraction that is no less than the batch maximum, in parts
pub parts_cut : (parts n room d : ℕ) → 0 < d → room * d ≤ n → (parts * min n (room * d) / d ≡ parts * room) × (div_ceil (parts * min n (room * d)) d ≡ parts * room)
parts_cut parts n room d h cut =
    let least : min n (room * d) ≡ room * d = omega (arith, cut) in
    let same : parts * (room * d) ≡ parts * room * d = omega arith in
    rw (least, same) (mul-div_cancel (parts * room) h, up_multiple (parts * room) d h)

-- a fraction that is less than the batch maximum, in parts
pub parts_free : (parts n room d : ℕ) → 1 ≤ parts → n < room * d → (min n (room * d) ≡ n) × (parts * n < parts * room * d)
parts_free parts n room d some free =
    let least = mul-le-mul_left parts free in
    (omega (arith, free), omega (arith, least, some))

-- a fraction that is less than the batch maximum, in parts, fits 128 bits
pub parts_fit : (parts n room d : ℕ) → parts < 2 ^ 16 → room < 2 ^ 32 → d < 2 ^ 64 → n < room * d → parts * n < 2 ^ 128
parts_fit parts n room d few small narrow free =
    let most = mul-le room d (2 ^ 32) (2 ^ 64) (omega (arith, small)) (omega (arith, narrow)) in
    let all = mul-le parts n (2 ^ 16) (2 ^ 96) (omega (arith, few)) (omega (arith, free, most)) in
    omega (arith, all)
