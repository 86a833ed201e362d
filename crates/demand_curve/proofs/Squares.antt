-- Inequalities between squares: no rate gains more than the demand.
use Rattle.std.proofs.Common.{◌≡◌, ℕ, ◌+◌, ◌-◌, ◌*◌, ◌≤◌, ◌<◌, ◌⊎◌, inl, inr, ap, arith}
use Rattle.std.proofs.Math.Nat.{mul-le-mul_left, le_of_mul-le-mul_left}
use Rattle.std.proofs.lemmas.Bool.{cases_lt}
use Rattle.std.specs.Int.{abs_diff}

-- twice a product is at most the sum of the squares, if the second number is the first and d more
twice_product_from : (p d : ℕ) → 2 * p * (p + d) ≤ p * p + (p + d) * (p + d)
twice_product_from p d = omega arith

-- twice a product of any two numbers is at most the sum of their squares
pub twice_product : (p r : ℕ) → 2 * p * r ≤ p * p + r * r
twice_product p r =
    elim (cases_lt p r) [
      | inl below ↦ let split : p + (r - p) ≡ r = omega arith in rw split at (twice_product_from p (r - p))
      | inr above ↦ let split : r + (p - r) ≡ p = omega arith in let swapped = rw split at (twice_product_from r (p - r)) in omega (arith, swapped)
    ]

-- the demand e is the line e0 or is cut below it: a rate a/k, which is within the batch maximum if e is cut, gains no more
pub best_rate : (e0 e a k : ℕ) → e ≤ e0 → (e ≡ e0) ⊎ (a ≤ k * e) → 2 * e0 * a * k + k * k * (e * e) ≤ k * k * (2 * e0 * e) + a * a
best_rate e0 e a k most how =
    elim how [
      | inl line ↦ omega (arith, ap (λ y. k * k * (y * y)) line, ap (λ y. k * k * e0 * y) line, twice_product (k * e0) a)
      | inr room ↦
          let split : a + (k * e - a) ≡ k * e = omega (arith, room) in
          cut e0 e a (k * e - a) k split (omega (arith, mul-le-mul_left k most))
    ]
  where
    cut : (e0 e a y k : ℕ) → a + y ≡ k * e → a + y ≤ k * e0 → 2 * e0 * a * k + k * k * (e * e) ≤ k * k * (2 * e0 * e) + a * a
    cut e0 e a y k split below =
        let square : k * k * (e * e) ≡ (a + y) * (a + y) = rw split (omega arith) in
        let product : k * k * (2 * e0 * e) ≡ 2 * e0 * k * (a + y) = rw split (omega arith) in
        omega (arith, square, product, mul-le-mul_left (2 * y) below)

-- the square of a distance
pub square_apart : (b e : ℕ) → abs_diff b e * abs_diff b e + 2 * b * e ≡ b * b + e * e
square_apart b e =
    elim (cases_lt b e) [
      | inl below ↦ from b e (e - b) (abs_diff b e) (omega arith) (omega arith)
      | inr above ↦ let turned = from e b (b - e) (abs_diff b e) (omega arith) (omega arith) in omega (arith, turned)
    ]
  where
    from : (b e d g : ℕ) → e ≡ b + d → g ≡ d → g * g + 2 * b * e ≡ b * b + e * e
    from b e d g split same = rw (same, split) (omega arith)

-- the rate b loses the square g * g against the demand e: with it, b gains at least what a rate a/k gains
pub loss_covers : (e0 e b g a k : ℕ) → e ≤ e0 → g * g + 2 * b * e ≡ b * b + e * e → (e ≡ e0) ⊎ ((b ≡ e) × (a ≤ k * e)) → 2 * e0 * a * k + k * k * (b * b) ≤ k * k * (2 * e0 * b + g * g) + a * a
loss_covers e0 e b g a k most apart how =
    elim how [
      | inl line ↦
          let best = best_rate e0 e a k most (inl line) in
          let by_line = ap (λ y. k * k * (2 * b * y)) line in
          let squares = ap (λ y. k * k * (y * y)) line in
          let product = ap (λ y. k * k * (2 * y * e)) line in
          omega (arith, best, by_line, squares, product, ap (λ y. k * k * y) apart)
      | inr cut ↦
          let best = best_rate e0 e a k most (inr cut.1) in
          rw cut.0 (omega (arith, best))
    ]

-- the rate x loses its square against the demand, with the rates x and n/k in units and the demand and the line in parts of 1/S
pub loss_covers_units : (q S D e x g lost n k : ℕ) → 0 < S → e ≤ q * D → g * g + 2 * (x * S) * e ≡ x * S * (x * S) + e * e → (e ≡ q * D) ⊎ ((x * S ≡ e) × (S * n ≤ k * e)) → g * g ≤ lost * (2 * q * S) → 2 * q * D * n * k + k * k * (S * x * x) ≤ k * k * (2 * q * D * x + 2 * q * lost) + S * n * n
loss_covers_units q S D e x g lost n k positive most apart how enough =
    le_of_mul-le-mul_left {k = S} (omega (arith, loss_covers (q * D) e (x * S) g (S * n) k most apart how, mul-le-mul_left (k * k) enough)) positive
