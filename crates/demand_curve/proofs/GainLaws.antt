-- What a rate gains at a price, as a difference of two squares.
use Rattle.std.proofs.Common.{◌≡◌, ℕ, ◌+◌, ◌*◌, ℤ, pos, ◌-ℤ◌, ◌*ℤ◌, sym, ap, ◌∙◌, arith}
use Rattle.std.proofs.lemmas.Int.{ints}
use borrow.Author.Differences.{up, down, product_is}
use Rattle.demand_curve.specs.Demand.{span, signed_line}
use Rattle.demand_curve.specs.Welfare.{scaled_welfare, scaled_cost, scaled_gain}
use Rattle.demand_curve.specs.Laws.{GainIsDifferenceOfSquares}

-- the square of e0 less that of e0 - w
square_difference : (e0 : ℤ) (w : ℕ) → e0 *ℤ e0 -ℤ (e0 -ℤ pos w) *ℤ (e0 -ℤ pos w) ≡ pos (2 * w) *ℤ e0 -ℤ pos (w * w)
square_difference e0 w =
    let r : up (e0 -ℤ pos w) + down e0 + w ≡ down (e0 -ℤ pos w) + up e0 = omega (arith, ints) in
    omega (arith, ints, ap (λ y. up (e0 -ℤ pos w) * y) r, ap (λ y. down (e0 -ℤ pos w) * y) r, ap (λ y. up e0 * y) r, ap (λ y. down e0 * y) r, ap (λ y. w * y) r)

-- S times a gain, by the gap of the limit z over the price c
gain_by_gap : (q n k S : ℕ) (z c : ℤ) → pos S *ℤ (pos (2 * q * n * k) *ℤ z -ℤ pos (S * n * n) -ℤ pos (2 * q * n * k) *ℤ c) ≡ pos (2 * (S * n)) *ℤ (pos q *ℤ (z -ℤ c) *ℤ pos k) -ℤ pos (S * n * (S * n))
gain_by_gap q n k S z c =
    let inner : up (pos (2 * q * n * k) *ℤ z -ℤ pos (S * n * n) -ℤ pos (2 * q * n * k) *ℤ c) + 2 * q * n * k * down z + S * n * n + 2 * q * n * k * up c ≡ down (pos (2 * q * n * k) *ℤ z -ℤ pos (S * n * n) -ℤ pos (2 * q * n * k) *ℤ c) + 2 * q * n * k * up z + 2 * q * n * k * down c = omega (arith, ints) in
    let gap : up (z -ℤ c) + down z + up c ≡ down (z -ℤ c) + up z + down c = omega (arith, ints) in
    let e0_up : up (pos q *ℤ (z -ℤ c) *ℤ pos k) ≡ q * up (z -ℤ c) * k = omega (arith, ints, ap (λ y. y * k) (product_is (pos q) (z -ℤ c)).0) in
    let e0_down : down (pos q *ℤ (z -ℤ c) *ℤ pos k) ≡ q * down (z -ℤ c) * k = omega (arith, ints, ap (λ y. y * k) (product_is (pos q) (z -ℤ c)).1) in
    omega (arith, ints, ap (λ y. S * y) inner, ap (λ y. 2 * S * n * q * k * y) gap, ap (λ y. 2 * S * n * y) e0_up, ap (λ y. 2 * S * n * y) e0_down)

pub gain_is_difference_of_squares : GainIsDifferenceOfSquares
unfolding scaled_gain scaled_welfare scaled_cost signed_line
gain_is_difference_of_squares t price n k =
    gain_by_gap t.rate n k (span t) t.high price
    ∙ sym (square_difference (signed_line t price *ℤ pos k) (span t * n))
