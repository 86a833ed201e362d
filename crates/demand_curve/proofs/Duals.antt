-- The dual value in its cases: at the batch maximum and on the line.
use Rattle.std.proofs.Common.{◌≡◌, ℕ, ◌-◌, ◌*◌, ◌/◌, ◌≤◌, ◌<◌, ℤ, refl, sym, ◌∙◌, arith}
use Rattle.std.proofs.Math.Nat.{mul-div-mul_left, mul-sub, mul-le-mul_left}
use Rattle.demand_curve.specs.Numbers.{distance}
use Rattle.std.specs.Int.{div_ceil}
use Rattle.demand_curve.specs.Demand.{Terms, span, line, scaled_demand, scaled_dual, dual_floor}
use Rattle.demand_curve.proofs.Demands.{scaled_demand_is}
use Rattle.demand_curve.proofs.Quotients.{difference_over}

-- the batch maximum, if the line asks for more
room_case : (u q S D : ℕ) → 0 < S → u * S * (2 * (q * D) - u * S) / (2 * q * S) ≡ (u * D * (2 * q) - u * u * S) / (2 * q)
room_case u q S D h =
    let product : u * S * (2 * (q * D) - u * S) ≡ S * (u * D * (2 * q) - u * u * S) =
    omega (arith, mul-sub (u * S) (2 * (q * D)) (u * S), mul-sub S (u * D * (2 * q)) (u * u * S)) in
    let denominator : 2 * q * S ≡ S * (2 * q) = omega arith in
    rw (product, denominator) (mul-div-mul_left (u * D * (2 * q) - u * u * S) (2 * q) h)

-- the dual value if the line asks for more than the batch maximum
pub dual-at_room : (t : Terms) (price : ℤ) → 0 < span t → 0 < t.rate → t.room * span t < line t price → (div_ceil (t.room * t.room * span t) (2 * t.rate) ≤ t.room * distance t.high price) × (t.room * distance t.high price - div_ceil (t.room * t.room * span t) (2 * t.rate) ≡ dual_floor t price)
unfolding dual_floor scaled_dual line
dual-at_room t price span_least rate_least cut =
    let below : t.room * t.room * span t ≤ t.room * distance t.high price * (2 * t.rate) =
    omega (arith, mul-le-mul_left t.room cut) in
    let parts = difference_over (t.room * distance t.high price) (t.room * t.room * span t) (2 * t.rate) (omega arith) below in
    let whole : scaled_demand t price ≡ t.room * span t = omega (arith, scaled_demand_is t price, cut) in
    (parts.0, rw whole (sym parts.1 ∙ sym (room_case t.room t.rate (span t) (distance t.high price) span_least)))

-- the dual value if the batch maximum does not cut the line
pub dual-on_line : (t : Terms) (price : ℤ) → line t price ≤ t.room * span t → line t price * line t price / (2 * t.rate * span t) ≡ dual_floor t price
unfolding dual_floor scaled_dual
dual-on_line t price free =
    let whole : scaled_demand t price ≡ line t price = omega (arith, scaled_demand_is t price, free) in
    let twice : 2 * line t price - line t price ≡ line t price = omega arith in
    rw (whole, twice) refl
