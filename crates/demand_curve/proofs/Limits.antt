-- How large the parts of a curve are, by the limits that its terms keep.
use Rattle.std.proofs.Common.{◌≡◌, ◌^◌, ◌≤◌, ℤ, pos, ◌-ℤ◌, arith}
use Rattle.std.proofs.lemmas.Int.{ints}
use Rattle.demand_curve.specs.Numbers.{distance}
use Rattle.demand_curve.specs.Demand.{Terms, IsWithin, IsWithinLimits, span}
use Rattle.demand_curve.proofs.Distances.{distance_is}

-- the limits are at least a tick apart
pub span_least : (t : Terms) → IsWithinLimits t → 2 ^ 32 ≤ span t
unfolding span
span_least t h = omega (arith, ints, distance_is t.high t.low, h.span_least)

-- the limits are at most the range of a limit apart
pub span_most : (t : Terms) → IsWithinLimits t → span t ≤ 2 ^ 61
unfolding span
span_most t h = omega (arith, ints, distance_is t.high t.low, h.low_in_range, h.high_in_range)

-- a price in range is not far below the high limit
pub below_high_most : (t : Terms) (price : ℤ) → IsWithinLimits t → IsWithin (2 ^ 78) price → distance t.high price ≤ 2 ^ 79
below_high_most t price h p = omega (arith, ints, distance_is t.high price, h.high_in_range, p)

-- the high limit is the span above the low one
pub span_is : (t : Terms) → IsWithinLimits t → t.high -ℤ t.low ≡ pos (span t)
unfolding span
span_is t h = omega (arith, ints, distance_is t.high t.low, h.span_least)
