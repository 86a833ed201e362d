-- A rounding is at most the highest rate.
use Rattle.std.proofs.Common.{ℕ, ◌≤◌, ℤ, arith}
use Rattle.demand_curve.specs.Demand.{Terms, IsWithinLimits, IsRounding, most_rate}
use Rattle.demand_curve.proofs.RoundingLaws.{rounding_is_within_room}

pub rate_is_small : (t : Terms) → IsWithinLimits t → (price : ℤ) (x : ℕ) → IsRounding t x price → x ≤ most_rate
rate_is_small t h price x rounding = omega (arith, rounding_is_within_room t h price x rounding, h.room_most, h.rate_most)
