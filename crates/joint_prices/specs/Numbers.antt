-- Floating point numbers m * 2^e with a mantissa m of 62 bits. What a difference, a product or a quotient is cut to is one again, so
-- nothing overflows.
use Rattle.std.specs.Prelude.{ℕ, suc, ◌-◌, ◌^◌, ◌<◌, ◌≤◌, if◌then◌else◌, ℤ, pos, negsuc, neg_ℤ, ◌+ℤ◌, ◌-ℤ◌, ◌*ℤ◌, int_le, int_div, unsigned_abs}
use Rattle.std.specs.Int.{int_min, int_max, w128, leading_zeros}
use Rattle.std.specs.Ordering.{int_eq}

-- a floating point number m * 2^e
pub record Num : Type 0 where
  pub m : ℤ
  pub e : ℤ

-- the ranges of the mantissa and the exponent
abbrev pub IsNum : Num → Type 0
IsNum a = (unsigned_abs a.m < 2 ^ 62) × (unsigned_abs a.e ≤ 2 ^ 20)

-- x cut to -2^n .. 2^n
abbrev pub within : ℕ → ℤ → ℤ
within n x = int_max (neg_ℤ (pos (2 ^ n))) (int_min x (pos (2 ^ n)))

-- how many bits |x| has, 0 of 0
abbrev pub bits : ℤ → ℕ
bits x = 128 - leading_zeros w128 (unsigned_abs x)

-- x over 2^k, rounded towards 0, or times 2^-k
unfoldable pub scaled : ℤ → ℤ → ℤ
scaled x (pos k) = int_div x (pos (2 ^ k))
scaled x (negsuc k) = x *ℤ pos (2 ^ suc k)

-- zero, with the least exponent
abbrev pub zero_num : Num
zero_num = record { m = pos 0; e = neg_ℤ (pos (2 ^ 20)) }

-- m * 2^e without the last k bits of m, or with -k more
abbrev pub fitted_to : ℤ → ℤ → ℤ → Num
fitted_to m e k = record { m = scaled m k; e = within 20 (e +ℤ k) }

-- m * 2^e with its mantissa cut to 62 bits
unfoldable pub cut : ℤ → ℤ → Num
cut m e = if int_eq m (pos 0) then zero_num else fitted_to m e (pos (bits m) -ℤ pos 62)

-- the product, rounded towards 0
unfoldable pub times : Num → Num → Num
times a b = cut (a.m *ℤ b.m) (a.e +ℤ b.e)

-- the quotient, rounded towards 0, or zero if the divisor isn't positive
unfoldable pub over : Num → Num → Num
over a b = if int_le b.m (pos 0) then zero_num else cut (int_div (a.m *ℤ pos (2 ^ 62)) b.m) (a.e -ℤ b.e -ℤ pos 62)

-- the mantissa of a number written with the exponent e - 62, rounded towards 0; 126 bits less leave nothing of it
abbrev pub raised : Num → ℤ → ℤ
raised a e = scaled (a.m *ℤ pos (2 ^ 62)) (int_min (e -ℤ a.e) (pos 126))

-- the difference, after both are aligned to the greater exponent
unfoldable pub minus : Num → Num → Num
minus a b = let e = int_max a.e b.e in cut (raised a e -ℤ raised b e) (e -ℤ pos 62)

-- the number rounded towards 0 to a whole one, and cut to -2^62 .. 2^62
unfoldable pub whole : Num → ℤ
whole a = within 62 (scaled a.m (int_max (neg_ℤ (pos 62)) (int_min (neg_ℤ a.e) (pos 62))))
