-- The laws of the dual value, which is the greatest gain at a price.
use Rattle.std.proofs.Common.{◌≡◌, ℕ, ◌+◌, ◌-◌, ◌*◌, ◌^◌, ◌≤◌, ◌<◌, ◌⊎◌, inl, inr, ℤ, pos, ◌-ℤ◌, ◌*ℤ◌, sym, ap, arith}
use Rattle.std.proofs.Math.Nat.{mul-le-mul, mul-le-mul_left, mul-le-mul_right, mul-sub, zero-div, zero-mul, div-le_of_le-mul}
use Rattle.std.proofs.lemmas.Nat.{mul-le}
use Rattle.std.proofs.lemmas.Bool.{cases_lt}
use Rattle.std.proofs.lemmas.Int.{ints}
use borrow.Author.Differences.{up, down, product_is}
use Rattle.demand_curve.specs.Numbers.{distance}
use Rattle.demand_curve.specs.Demand.{Terms, IsWithinLimits, span, line, signed_line, scaled_demand, scaled_dual, dual_floor}
use Rattle.demand_curve.specs.Welfare.{scaled_welfare, scaled_cost, scaled_gain}
use Rattle.demand_curve.specs.Laws.{DualIsByCases, DualIsGreatestGain, DualFallsByDemand, DualFallsInParts, DualFloorInParts}
use Rattle.demand_curve.proofs.Distances.{distance_is}
use Rattle.demand_curve.proofs.Demands.{scaled_demand_is}
use Rattle.demand_curve.proofs.DemandLaws.{demand_is_cut_at_limits}
use Rattle.demand_curve.proofs.Duals.{dual-at_room, dual-on_line}
use Rattle.demand_curve.proofs.Limits.{span_least, below_high_most}
use Rattle.demand_curve.proofs.Quotients.{down_times, floor_in_parts}
use Rattle.demand_curve.proofs.Signed.{gap_is, scaled_gain_at_most, scaled_gain_is, moved_at_most, moved_in_parts}
use Rattle.demand_curve.proofs.Squares.{best_rate}

-- the dual value in parts, without a difference that stops at 0
pub dual_parts : (t : Terms) (price : ℤ) → scaled_dual t price + scaled_demand t price * scaled_demand t price ≡ 2 * (t.rate * distance t.high price) * scaled_demand t price
unfolding scaled_dual line
dual_parts t price =
    let below : scaled_demand t price ≤ t.rate * distance t.high price = omega (arith, scaled_demand_is t price) in
    omega (arith, mul-sub (scaled_demand t price) (2 * (t.rate * distance t.high price)) (scaled_demand t price), mul-le-mul_left (scaled_demand t price) below)

-- above the high limit nothing is asked for
pub nothing_asked : (t : Terms) → IsWithinLimits t → (price : ℤ) → scaled_demand t price * distance price t.high ≡ 0
nothing_asked t h price =
    elim (cases_lt 0 (distance price t.high)) [
      | inl above ↦
          let zero : scaled_demand t price ≡ 0 = (demand_is_cut_at_limits t h price).none_above (omega (arith, ints, distance_is price t.high, above)) in
          rw zero (omega arith)
      | inr below ↦ let zero : distance price t.high ≡ 0 = omega (arith, below) in rw zero (omega arith)
    ]

-- the demand is at most what the line asks for
demand_most : (t : Terms) (price : ℤ) → scaled_demand t price ≤ t.rate * distance t.high price
unfolding line
demand_most t price = omega (arith, scaled_demand_is t price)

-- the demand is what the line asks for, or it is the batch maximum, which a/k does not pass
demand_cases : (t : Terms) (price : ℤ) (a k : ℕ) → a ≤ k * (t.room * span t) → (scaled_demand t price ≡ t.rate * distance t.high price) ⊎ (a ≤ k * scaled_demand t price)
unfolding line
demand_cases t price a k within =
    elim (cases_lt (t.room * span t) (t.rate * distance t.high price)) [
      | inl cut ↦
          let whole : scaled_demand t price ≡ t.room * span t = omega (arith, scaled_demand_is t price, cut) in
          inr (omega (arith, within, ap (λ y. k * y) whole))
      | inr free ↦ inl (omega (arith, scaled_demand_is t price, free))
    ]

-- the dual value with a line that may be below 0
formula : (t : Terms) → IsWithinLimits t → (price : ℤ) → pos (scaled_dual t price) ≡ pos (scaled_demand t price) *ℤ (pos 2 *ℤ signed_line t price -ℤ pos (scaled_demand t price))
unfolding signed_line
formula t h price =
    signed (scaled_demand t price) t.rate (scaled_dual t price) (distance t.high price) (distance price t.high) t.high price
    (gap_is t.high price) (nothing_asked t h price) (dual_parts t price)
  where
    signed : (e q dual d below : ℕ) (z c : ℤ) → up z + down c + below ≡ down z + up c + d → e * below ≡ 0 → dual + e * e ≡ 2 * (q * d) * e → pos dual ≡ pos e *ℤ (pos 2 *ℤ (pos q *ℤ (z -ℤ c)) -ℤ pos e)
    signed e q dual d below z c gap none h =
        let product = product_is (pos q) (z -ℤ c) in
        let difference : up (z -ℤ c) + below ≡ down (z -ℤ c) + d = omega (arith, ints) in
        let inner : up (pos 2 *ℤ (pos q *ℤ (z -ℤ c)) -ℤ pos e) + 2 * q * down (z -ℤ c) + e ≡ down (pos 2 *ℤ (pos q *ℤ (z -ℤ c)) -ℤ pos e) + 2 * q * up (z -ℤ c) = omega (arith, ints, ap (λ y. 2 * y) product.0, ap (λ y. 2 * y) product.1) in
        omega (arith, ints, ap (λ y. e * y) inner, ap (λ y. 2 * q * e * y) difference, ap (λ y. 2 * q * y) none, h)

-- nothing is gained if nothing is asked for
none_gained : (t : Terms) (price : ℤ) → scaled_demand t price ≡ 0 → dual_floor t price ≡ 0
unfolding dual_floor scaled_dual
none_gained t price zero =
    let nothing : scaled_demand t price * (2 * line t price - scaled_demand t price) ≡ 0 = rw zero (zero-mul _) in
    rw nothing (zero-div (2 * t.rate * span t))

-- a unit spares at most the distance of the price from the high limit
dual_most : (t : Terms) → IsWithinLimits t → (price : ℤ) → dual_floor t price ≤ t.room * distance t.high price
unfolding line
dual_most t h price =
    let positive : 0 < span t = omega (arith, span_least t h) in
    let rate : 0 < t.rate = omega (arith, h.room_least, h.room_most) in
    elim (cases_lt (t.room * span t) (t.rate * distance t.high price)) [
      | inl cut ↦ omega (arith, dual-at_room t price positive rate cut)
      | inr free ↦ rw (sym (dual-on_line t price free)) (div-le_of_le-mul (2 * t.rate * span t) (omega (arith, mul-le-mul_right (t.rate * distance t.high price) free)))
    ]

pub dual_is_by_cases : DualIsByCases
dual_is_by_cases t h price =
    let positive : 0 < span t = omega (arith, span_least t h) in
    let rate : 0 < t.rate = omega (arith, h.room_least, h.room_most) in
    record {
      none = λ above. none_gained t price ((demand_is_cut_at_limits t h price).none_above above);
      on_line = λ free. sym (dual-on_line t price free);
      at_room = λ cut. sym (dual-at_room t price positive rate cut).1;
      formula = formula t h price;
      most = dual_most t h price;
      small = λ p. omega (arith, dual_most t h price, mul-le t.room (distance t.high price) (2 ^ 24) (2 ^ 79) (omega (arith, h.room_most, h.rate_most)) (below_high_most t price h p));
    }

pub dual_is_greatest_gain : DualIsGreatestGain
unfolding scaled_gain scaled_welfare scaled_cost
dual_is_greatest_gain t h price =
    record {
      bound = λ n k within.
          let cases : (scaled_demand t price ≡ t.rate * distance t.high price) ⊎ (span t * n ≤ k * scaled_demand t price) = demand_cases t price (span t * n) k (omega (arith, mul-le-mul_left (span t) within)) in
          let best = best_rate (t.rate * distance t.high price) (scaled_demand t price) (span t * n) k (demand_most t price) cases in
          scaled_gain_at_most (span t) (2 * t.rate * n * k) (span t * n * n) (k * k * scaled_dual t price) (distance t.high price) (distance price t.high) t.high price (gap_is t.high price)
          (omega (arith, best, ap (λ y. k * k * y) (dual_parts t price)));
      reached =
          scaled_gain_is (span t) (2 * t.rate * scaled_demand t price * span t) (span t * scaled_demand t price * scaled_demand t price) (span t * span t * scaled_dual t price) (distance t.high price) (distance price t.high) t.high price (gap_is t.high price)
          (omega (arith, ap (λ y. 2 * t.rate * span t * y) (nothing_asked t h price)))
          (omega (arith, ap (λ y. span t * span t * y) (dual_parts t price)));
    }

pub dual_falls_by_demand : DualFallsByDemand
dual_falls_by_demand t h before after =
    let cases = demand_cases t before (scaled_demand t after) 1 (omega (arith, (demand_is_cut_at_limits t h after).within_room)) in
    let best = best_rate (t.rate * distance t.high before) (scaled_demand t before) (scaled_demand t after) 1 (demand_most t before) cases in
    moved_at_most (scaled_dual t before) (scaled_dual t after) (2 * t.rate * scaled_demand t after) t.high before after (gap_is t.high before) (gap_is t.high after)
    (omega (arith, ap (λ y. 2 * t.rate * y) (nothing_asked t h after)))
    (omega (arith, best, dual_parts t before, dual_parts t after))

pub dual_falls_in_parts : DualFallsInParts
dual_falls_in_parts t h before after k =
    moved_in_parts k (scaled_dual t before) (scaled_dual t after) (2 * t.rate * scaled_demand t after) (after -ℤ before) (dual_falls_by_demand t h before after)

pub dual_floor_in_parts : DualFloorInParts
unfolding dual_floor
dual_floor_in_parts t h price k N parts some =
    let rate : 1 ≤ t.rate = omega (arith, h.room_least, h.room_most) in
    let whole : 1 ≤ span t = omega (arith, span_least t h) in
    let down = down_times (scaled_dual t price) (2 * t.rate * span t) (omega (arith, mul-le-mul rate whole)) in
    floor_in_parts (scaled_dual t price) (2 * t.rate * span t) (dual_floor t price) k N parts some down.0 down.1
