-- The distance of two prices, in the form in which `omega` reads integers.
use Rattle.std.proofs.Common.{◌≡◌, ◌+◌, ◌-◌, ℤ, pos, negsuc, ◌-ℤ◌, ◌≤ℤ◌, ◌<ℤ◌, arith}
use Rattle.std.specs.Prelude.{unsigned_abs}
use Rattle.std.proofs.lemmas.Int.{ints}
use borrow.Author.Differences.{up, down}
use Rattle.demand_curve.specs.Numbers.{or_zero, distance}

-- the part of a number that is not negative, as a difference that stops at 0
or_zero_is : (z : ℤ) → or_zero z ≡ up z - down z
or_zero_is (pos n) = omega arith
or_zero_is (negsuc n) = omega arith

-- a distance is a difference that stops at 0
pub distance_is : (upper lower : ℤ) → distance upper lower ≡ (up upper + down lower) - (down upper + up lower)
unfolding distance
distance_is upper lower = omega (arith, ints, or_zero_is (upper -ℤ lower))

-- if the upper price is above, the distance is the absolute difference
pub distance-above : (upper lower : ℤ) → lower <ℤ upper → unsigned_abs (upper -ℤ lower) ≡ distance upper lower
distance-above upper lower h = omega (arith, ints, distance_is upper lower)

-- if it is not above, the distance is 0
pub distance-not_above : (upper lower : ℤ) → upper ≤ℤ lower → 0 ≡ distance upper lower
distance-not_above upper lower h = omega (arith, ints, distance_is upper lower)

-- both, for the code that tests which price is above
pub ruleset distance_steps = (distance-above, distance-not_above)
