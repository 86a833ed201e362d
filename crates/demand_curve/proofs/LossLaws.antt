-- The laws of the loss, and that it covers a rounding's distance from the best rate.
use Rattle.std.proofs.Common.{◌≡◌, ℕ, ◌+◌, ◌*◌, ◌^◌, ◌≤◌, ◌<◌, ◌⊎◌, inl, inr, ℤ, pos, ◌-ℤ◌, ◌*ℤ◌, ap, arith}
use Rattle.std.specs.Int.{abs_diff}
use Rattle.std.proofs.Math.Nat.{mul-le-mul_left, mul-le-mul, lt_of_mul-lt-mul_right}
use Rattle.std.proofs.lemmas.Bool.{cases_lt}
use Rattle.std.proofs.lemmas.Int.{ints}
use borrow.Author.Differences.{up, down}
use Rattle.demand_curve.specs.Numbers.{distance}
use Rattle.std.specs.Int.{div_ceil}
use Rattle.demand_curve.specs.Demand.{Terms, IsWithinLimits, span, line, scaled_demand, IsRounding, loss}
use Rattle.demand_curve.specs.Welfare.{scaled_welfare, scaled_cost, scaled_gain}
use Rattle.demand_curve.specs.Laws.{LossIsZeroAtDemand, LossIsSmall, LossCoversBestRate, LossCoversBestRateInParts}
use Rattle.demand_curve.proofs.Distances.{distance_is}
use Rattle.demand_curve.proofs.Demands.{scaled_demand_is}
use Rattle.demand_curve.proofs.RoundingLaws.{rounding_is_exact_at_cuts, at_most_from_times}
use Rattle.demand_curve.proofs.Limits.{span_least, span_most}
use Rattle.demand_curve.proofs.Quotients.{up_times}
use Rattle.demand_curve.proofs.Squares.{square_apart, loss_covers_units}
use Rattle.demand_curve.proofs.Signed.{gap_is, gains_at_most}

-- the distance of a rate from the demand, in parts of 1/span
unfoldable pub apart_of : Terms → ℕ → ℤ → ℕ
apart_of t x price = abs_diff (x * span t) (scaled_demand t price)

-- the loss covers the square of that distance, by less than one grain
pub loss_times : (t : Terms) (x : ℕ) (price : ℤ) → 0 < 2 * t.rate * span t → (apart_of t x price * apart_of t x price ≤ loss t x price * (2 * t.rate * span t)) × (loss t x price * (2 * t.rate * span t) < apart_of t x price * apart_of t x price + 2 * t.rate * span t)
unfolding loss apart_of
loss_times t x price h = up_times (abs_diff (x * span t) (scaled_demand t price) * abs_diff (x * span t) (scaled_demand t price)) (2 * t.rate * span t) h

-- what the loss is divided by is not 0
divisor_least : (t : Terms) → IsWithinLimits t → 0 < 2 * t.rate * span t
divisor_least t h = mul-le-mul {n₁ = 1} {m₁ = 1} (omega (arith, h.room_least, h.room_most)) (omega (arith, span_least t h))

-- only 0 has a square that is 0
zero_from_square : (g : ℕ) → g * g ≤ 0 → g ≡ 0
zero_from_square g h =
    elim (cases_lt 0 g) [
      | inl some ↦ absurd (omega (arith, h, mul-le-mul {n₁ = 1} {m₁ = 1} some some))
      | inr none ↦ omega arith
    ]

pub loss_is_zero_at_demand : LossIsZeroAtDemand
unfolding apart_of
loss_is_zero_at_demand t h price x =
    let positive = divisor_least t h in
    let times = loss_times t x price positive in (
      (λ zero.
          let square : apart_of t x price * apart_of t x price ≤ 0 = omega (arith, rw zero at times.0) in
          omega (arith, zero_from_square (apart_of t x price) square)),
      (λ exact.
          let none : apart_of t x price ≡ 0 = omega (arith, exact) in
          let small : loss t x price * (2 * t.rate * span t) < 1 * (2 * t.rate * span t) = omega (arith, rw none at times.1) in
          omega (arith, lt_of_mul-lt-mul_right (2 * t.rate * span t) small)),
    )

-- a rounding is less than the span away from the demand, in parts of 1/span
apart_most : (t : Terms) (x : ℕ) (price : ℤ) → IsRounding t x price → apart_of t x price ≤ span t
unfolding apart_of
apart_most t x price rounding = omega (arith, rounding.less_than_one_above, rounding.less_than_one_below)

-- a bound on what is lost, with S taken out of both sides
small_from : (lost g S q : ℕ) → 0 < S → g ≤ S → lost * (q * S) < g * g + q * S → lost * q < S + q
small_from lost g S q positive near h =
    lt_of_mul-lt-mul_right S (omega (arith, h, mul-le-mul near near))

pub loss_is_small : LossIsSmall
loss_is_small t h price x rounding =
    let positive : 0 < span t = omega (arith, span_least t h) in
    let twice : 2 ≤ 2 * t.rate = omega (arith, h.room_least, h.room_most) in
    let little : loss t x price * (2 * t.rate) < span t + 2 * t.rate =
    small_from (loss t x price) (apart_of t x price) (span t) (2 * t.rate) positive (apart_most t x price rounding) (loss_times t x price (divisor_least t h)).1 in
    let rounded = up_times (span t) (2 * t.rate) (omega (arith, twice)) in (
      at_most_from_times (loss t x price) (div_ceil (span t) (2 * t.rate)) (2 * t.rate) (omega (arith, little, rounded)),
      at_most_from_times (loss t x price) (2 ^ 60) (2 * t.rate) (omega (arith, little, span_most t h, twice)),
    )

-- welfare in the parts of a book
pub welfare_in_parts : (t : Terms) (n k m M : ℕ) → m * (2 * t.rate) ≡ M → pos m *ℤ scaled_welfare t n k ≡ pos (M * n * k) *ℤ t.high -ℤ pos (m * (span t * n * n))
unfolding scaled_welfare
welfare_in_parts t n k m M parts =
    rw (← parts) (times (2 * t.rate * n * k) (span t * n * n) (m * (2 * t.rate) * n * k) t.high (omega arith))
  where
    times : (a b c : ℕ) (z : ℤ) → m * a ≡ c → pos m *ℤ (pos a *ℤ z -ℤ pos b) ≡ pos c *ℤ z -ℤ pos (m * b)
    times a b c z same =
        let sums : up (pos a *ℤ z -ℤ pos b) + a * down z + b ≡ down (pos a *ℤ z -ℤ pos b) + a * up z = omega (arith, ints) in
        rw (← same) (omega (arith, ints, ap (λ y. m * y) sums))

-- a rounding is the batch maximum, or is compared with the line itself
rounding_cases : (t : Terms) → IsWithinLimits t → (price : ℤ) (x n k : ℕ) → IsRounding t x price → n ≤ k * t.room → (scaled_demand t price ≡ line t price) ⊎ ((x * span t ≡ scaled_demand t price) × (span t * n ≤ k * scaled_demand t price))
rounding_cases t h price x n k rounding within =
    elim (cases_lt (t.room * span t) (line t price)) [
      | inl cut ↦
          let whole : scaled_demand t price ≡ t.room * span t = omega (arith, scaled_demand_is t price, cut) in
          let exact : x ≡ t.room = (rounding_is_exact_at_cuts t h price x rounding).room (omega (arith, cut)) in
          inr (omega (arith, whole, ap (λ y. y * span t) exact), omega (arith, mul-le-mul_left (span t) within, ap (λ y. k * y) whole))
      | inr free ↦ inl (omega (arith, scaled_demand_is t price, free))
    ]

-- the gain of a rounding and its loss, against that of n/k
covers : (t : Terms) → IsWithinLimits t → (price : ℤ) (x n k : ℕ) → IsRounding t x price → n ≤ k * t.room → 2 * t.rate * distance t.high price * n * k + k * k * (span t * x * x) ≤ k * k * (2 * t.rate * distance t.high price * x + 2 * t.rate * loss t x price) + span t * n * n
unfolding line apart_of
covers t h price x n k rounding within =
    loss_covers_units t.rate (span t) (distance t.high price) (scaled_demand t price) x (apart_of t x price) (loss t x price) n k
    (omega (arith, span_least t h))
    (omega (arith, scaled_demand_is t price))
    (square_apart (x * span t) (scaled_demand t price))
    (rounding_cases t h price x n k rounding within)
    (loss_times t x price (divisor_least t h)).0

-- above the high limit nothing is traded
nothing_above : (t : Terms) → IsWithinLimits t → (price : ℤ) (x : ℕ) → IsRounding t x price → x * distance price t.high ≡ 0
nothing_above t h price x rounding =
    elim (cases_lt 0 (distance price t.high)) [
      | inl above ↦
          let zero : x ≡ 0 = (rounding_is_exact_at_cuts t h price x rounding).none (omega (arith, ints, distance_is price t.high, above)) in
          rw zero (omega arith)
      | inr below ↦ let zero : distance price t.high ≡ 0 = omega (arith, below) in rw zero (omega arith)
    ]

pub loss_covers_best_rate_in_parts : LossCoversBestRateInParts
loss_covers_best_rate_in_parts t h price x rounding n k within m M parts =
    let one : M * x * 1 ≡ M * x = omega arith in
    let none : M * x * distance price t.high ≡ 0 = omega (arith, ap (λ y. M * y) (nothing_above t h price x rounding)) in
    let enough : M * n * k * distance t.high price + k * k * (m * (span t * x * x)) ≤ k * k * (M * x * distance t.high price + M * loss t x price) + m * (span t * n * n) =
    rw (← parts) (omega (arith, mul-le-mul_left m (covers t h price x n k rounding within))) in
    rw (welfare_in_parts t n k m M parts, welfare_in_parts t x 1 m M parts, one)
    (gains_at_most (k * k) (M * n * k) (m * (span t * n * n)) (M * x) (m * (span t * x * x)) (M * loss t x price) (distance t.high price) (distance price t.high) t.high price (gap_is t.high price) none enough)

pub loss_covers_best_rate : LossCoversBestRate
unfolding scaled_gain scaled_cost
loss_covers_best_rate t h price x rounding n k within =
    let whole : 2 * t.rate * x * 1 ≡ 2 * t.rate * x = omega arith in
    let here = loss_covers_best_rate_in_parts t h price x rounding n k within 1 (2 * t.rate) (omega arith) in
    rw whole (rw (one_times (scaled_welfare t n k), one_times (scaled_welfare t x 1)) at here)
  where
    one_times : (z : ℤ) → pos 1 *ℤ z ≡ z
    one_times z = omega (arith, ints)
