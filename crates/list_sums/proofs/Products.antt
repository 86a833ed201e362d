-- Products of integers, and how large they can be.
use Rattle.std.proofs.Common.{◌≡◌, ℕ, zero, suc, ◌+◌, ◌*◌, ◌≤◌, ℤ, pos, negsuc, ◌+ℤ◌, ◌-ℤ◌, ◌*ℤ◌, sym, ap, ◌∙◌, arith}
use Rattle.std.specs.Prelude.{unsigned_abs}
use Rattle.std.proofs.Math.IntN.{suc_ℤ-*ℤ, pred_ℤ-*ℤ, zero-*ℤ, -ℤ-+ℤ_cancel}
use Rattle.std.proofs.Math.Nat.{mul-le-mul}
use Rattle.std.proofs.lemmas.Int.{ints, unsigned_abs-mul}
use borrow.Author.Differences.{up, down, product_is}

-- the triangle inequality
pub unsigned_abs-add : (a b : ℤ) → unsigned_abs (a +ℤ b) ≤ unsigned_abs a + unsigned_abs b
unsigned_abs-add a b = omega (arith, ints)

-- a product of factors that are at most m and n in absolute value
pub unsigned_abs-mul_le : (a b : ℤ) (m n : ℕ) → unsigned_abs a ≤ m → unsigned_abs b ≤ n → unsigned_abs (a *ℤ b) ≤ m * n
unsigned_abs-mul_le a b m n first second = rw unsigned_abs-mul (mul-le-mul first second)

pos-*ℤ-add : (a : ℕ) (b c : ℤ) → pos a *ℤ (b +ℤ c) ≡ pos a *ℤ b +ℤ pos a *ℤ c
pos-*ℤ-add zero b c = omega (arith, ints, zero-*ℤ (b +ℤ c), zero-*ℤ b, zero-*ℤ c)
pos-*ℤ-add (suc a) b c =
    omega (arith, ints, pos-*ℤ-add a b c, suc_ℤ-*ℤ (pos a) (b +ℤ c), suc_ℤ-*ℤ (pos a) b, suc_ℤ-*ℤ (pos a) c)

negsuc-*ℤ-add : (a : ℕ) (b c : ℤ) → negsuc a *ℤ (b +ℤ c) ≡ negsuc a *ℤ b +ℤ negsuc a *ℤ c
negsuc-*ℤ-add zero b c =
    omega (arith, ints, zero-*ℤ (b +ℤ c), zero-*ℤ b, zero-*ℤ c, pred_ℤ-*ℤ (pos zero) (b +ℤ c), pred_ℤ-*ℤ (pos zero) b, pred_ℤ-*ℤ (pos zero) c)
negsuc-*ℤ-add (suc a) b c =
    omega (arith, ints, negsuc-*ℤ-add a b c, pred_ℤ-*ℤ (negsuc a) (b +ℤ c), pred_ℤ-*ℤ (negsuc a) b, pred_ℤ-*ℤ (negsuc a) c)

-- a factor is distributed over a sum
pub *ℤ-add : (a b c : ℤ) → a *ℤ (b +ℤ c) ≡ a *ℤ b +ℤ a *ℤ c
*ℤ-add (pos a) b c = pos-*ℤ-add a b c
*ℤ-add (negsuc a) b c = negsuc-*ℤ-add a b c

-- a factor is distributed over a difference
pub *ℤ-sub : (a b c : ℤ) → a *ℤ b ≡ a *ℤ (b -ℤ c) +ℤ a *ℤ c
*ℤ-sub a b c = sym (ap (λ x. a *ℤ x) (-ℤ-+ℤ_cancel b c)) ∙ *ℤ-add a (b -ℤ c) c

-- products are associative
pub *ℤ-assoc : (a b c : ℤ) → a *ℤ b *ℤ c ≡ a *ℤ (b *ℤ c)
*ℤ-assoc a b c =
    let p = product_is a b in
    let q = product_is b c in
    omega (arith, ints, ap (λ y. up c * y) p.0, ap (λ y. down c * y) p.0, ap (λ y. up c * y) p.1, ap (λ y. down c * y) p.1, ap (λ y. up a * y) q.0, ap (λ y. down a * y) q.0, ap (λ y. up a * y) q.1, ap (λ y. down a * y) q.1)
