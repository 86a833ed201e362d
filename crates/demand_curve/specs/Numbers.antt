-- Operations on integers: a number cut at 0, and the distance of two numbers.
use Rattle.std.specs.Prelude.{ℕ, ℤ, pos, negsuc, ◌-ℤ◌}

-- a number if it is not negative, else 0
abbrev pub or_zero : ℤ → ℕ
or_zero (pos n) = n
or_zero (negsuc _) = 0

-- how far the upper number is above the lower one, or 0 if it is not above
unfoldable pub distance : ℤ → ℤ → ℕ
distance upper lower = or_zero (upper -ℤ lower)
