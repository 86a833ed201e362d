-- Quotients: bounds that single one out, a square over a product, and a difference.
use Rattle.std.proofs.Common.{◌≡◌, ℕ, zero, suc, ◌+◌, ◌-◌, ◌*◌, ◌/◌, ◌%◌, ◌^◌, ◌≤◌, ◌<◌, ◌≢◌, sym, ap, ◌∙◌, arith}
use Rattle.std.proofs.Math.Nat.{div-eq_of_lt-le, add-mul-div_left, div-div-eq-div-mul, mod-lt, div-add-mod, div-mul-le_self, div-le_of_le-mul, lt_of_mul-lt-mul_right, mul-le-mul_left, mul-div_cancel}
use Rattle.std.proofs.lemmas.Int.{to_z-of_z, to_z_pos}
use Rattle.std.proofs.lemmas.Grind.{div_ceil_times}
use Rattle.std.proofs.lemmas.Nat.{mul-le}
use Rattle.std.specs.Int.{div_ceil}

-- n / d times d is at most n, and less than d below it
pub down_times : (n d : ℕ) → 0 < d → (n / d * d ≤ n) × (n < n / d * d + d)
down_times n d h = omega (arith, div-add-mod n d, mod-lt n h)

-- n / d rounded up, times d, is at least n, and less than d above it
pub up_times : (n d : ℕ) → 0 < d → (n ≤ div_ceil n d * d) × (div_ceil n d * d < n + d)
up_times n d h = div_ceil_times n d h

-- a fraction rounded up is at most its numerator
up_most : (n d m : ℕ) → 0 < d → n ≤ m → div_ceil n d ≤ m
up_most n d m h most = omega (arith, most, div-add-mod n d, mod-lt n h, mul-le-mul_left (n / d) h)

-- a fraction of at most m, rounded up
pub up_within : (n d m : ℕ) → 0 < d → n ≤ m * d → div_ceil n d ≤ m
up_within n d m h most =
    let below : div_ceil n d < m + 1 = lt_of_mul-lt-mul_right d (omega (arith, div_ceil_times n d h)) in
    omega (arith, below)

-- a square over twice what is squared or more, rounded up, is at most half of that
pub square_small : (n d S : ℕ) → 0 < S → n ≤ S → S ≤ 2 ^ 61 → 2 ≤ d → div_ceil (n * n) (d * S) ≤ 2 ^ 60
square_small n d S positive near small twice =
    up_within (n * n) (d * S) (2 ^ 60) (omega (arith, mul-le-mul_left d positive, twice)) (omega (arith, mul-le n n S (2 ^ 61) near (omega (arith, near, small)), mul-le-mul_left S twice))

-- a square over a number, rounded up, fits 128 bits with a sign if what is squared is small
pub square_fits : (n d : ℕ) → n ≤ 2 ^ 61 → 0 < d → div_ceil (n * n) d < 2 ^ 127
square_fits n d small positive = omega (arith, up_most (n * n) d (2 ^ 122) positive (mul-le n n (2 ^ 61) (2 ^ 61) small small))

-- the square of e = x * S + r over k * S, from the parts x and r
square_of_parts : (e x r S k : ℕ) → 0 < S → e ≡ x * S + r → (x * x * S + 2 * x * r + r * r / S) / k ≡ e * e / (k * S)
square_of_parts e x r S k h parts =
    let whole : e * e ≡ r * r + S * (x * x * S + 2 * x * r) = rw parts (omega arith) in
    let by_span : e * e / S ≡ r * r / S + (x * x * S + 2 * x * r) = rw whole (add-mul-div_left (r * r) (x * x * S + 2 * x * r) h) in
    let sum : x * x * S + 2 * x * r + r * r / S ≡ e * e / S = omega (arith, by_span) in
    rw sum (div-div-eq-div-mul (e * e) S k ∙ ap (λ d. e * e / d) (omega arith))

-- the square of e over k * S, without the square of e
pub square_over : (e S k : ℕ) → 0 < S → (e / S * (e / S) * S + 2 * (e / S) * (e % S) + e % S * (e % S) / S) / k ≡ e * e / (k * S)
square_over e S k h = square_of_parts e (e / S) (e % S) S k h (omega (arith, div-add-mod e S))

-- what `square_over` computes fits 128 bits if the quotient and S are small
pub square_parts_fit : (e S : ℕ) → 0 < S → S ≤ 2 ^ 61 → e ≤ 2 ^ 24 * S → e / S * (e / S) * S + 2 * (e / S) * (e % S) + e % S * (e % S) / S < 2 ^ 127
square_parts_fit e S h most fits =
    let x : e / S ≤ 2 ^ 24 = div-le_of_le-mul S (omega (arith, fits)) in
    let r : e % S ≤ 2 ^ 61 = omega (arith, mod-lt e h, most) in
    let rest : e % S * (e % S) / S ≤ 2 ^ 61 =
    div-le_of_le-mul S (omega (arith, mul-le (e % S) (e % S) S (2 ^ 61) (omega (arith, mod-lt e h)) r)) in
    omega (arith, rest, mul-le (e / S * (e / S)) S (2 ^ 48) (2 ^ 61) (mul-le (e / S) (e / S) (2 ^ 24) (2 ^ 24) x x) most, mul-le (e / S) (e % S) (2 ^ 24) (2 ^ 61) x r)

-- a difference over k, if the first part is g + y and g is the second rounded up
difference_from : (a g y b k : ℕ) → 0 < k → a ≡ g + y → b ≤ g * k → g * k < b + k → (a * k - b) / k ≡ y
difference_from a g y b k h e p q = rw e (div-eq_of_lt-le k (omega arith) (omega arith))

-- a difference over k, if its second part is rounded up first
pub difference_over : (a b k : ℕ) → 0 < k → b ≤ a * k → (div_ceil b k ≤ a) × ((a * k - b) / k ≡ a - div_ceil b k)
difference_over a b k h below =
    let up = div_ceil_times b k h in
    let fits : div_ceil b k < a + 1 = lt_of_mul-lt-mul_right k (omega (arith, up)) in
    (omega (arith, fits), difference_from a (div_ceil b k) (a - div_ceil b k) b k h (omega (arith, fits)) up.0 up.1)

-- n / d, if n is a multiple of d, is also n / d rounded up
pub up_exact : (n d : ℕ) → n / d * d ≡ n → n / d ≡ div_ceil n d
up_exact n d exact = omega (arith, exact, div-add-mod n d)

-- n / d rounded up is one more than rounded down, if n is not a multiple of d
pub up_inexact : (n d : ℕ) → n / d * d ≢ n → n / d + 1 ≡ div_ceil n d
up_inexact n d inexact = omega (arith, inexact, div-add-mod n d)

-- a multiple of d, over d, rounded up
pub up_multiple : (n d : ℕ) → 0 < d → div_ceil (n * d) d ≡ n
up_multiple n d h =
    let down : n * d / d ≡ n = mul-div_cancel n h in
    sym (up_exact (n * d) d (ap (λ y. y * d) down)) ∙ down

-- n over d, rounded down to x, in parts of which d are k times as many: N to a whole
pub floor_in_parts : (n d x k N : ℕ) → k * d ≡ N → 1 ≤ N → x * d ≤ n → n < x * d + d → (N * x ≤ k * n) × (k * n < N * x + N)
floor_in_parts n d x zero N parts some below near = absurd (omega (arith, parts, some))
floor_in_parts n d x (suc k) N parts some below near =
    let whole = ap (λ y. y * x) parts in
    (omega (arith, whole, mul-le-mul_left (suc k) below), omega (arith, whole, parts, mul-le-mul_left (suc k) near))

-- both facts on a square, for the code that computes one
pub ruleset square_steps = (square_over, square_parts_fit)

-- facts for the loss: its square fits, and so do the signed numbers on the way
pub ruleset loss_steps = (square_fits, square_small, to_z-of_z, to_z_pos)

-- facts for both roundings
pub ruleset rounding_steps = (up_exact, up_inexact, div-mul-le_self)
