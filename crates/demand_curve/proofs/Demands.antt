-- The demand as the lesser of two numbers.
use Rattle.std.proofs.Common.{◌≡◌, ℕ, ◌*◌, min, ℤ, ◌≤ℤ◌, cond, arith}
use Rattle.std.specs.Prelude.{int_le, nat_le}
use Rattle.std.proofs.lemmas.Int.{ints, to_z-of_z}
use Rattle.std.proofs.lemmas.Bool.{cond_both, leb-true, leb-false}
use borrow.Author.Differences.{le-true}
use Rattle.demand_curve.specs.Numbers.{distance}
use Rattle.demand_curve.specs.Demand.{Terms, span, line, scaled_demand}
use Rattle.demand_curve.proofs.Distances.{distance_is}

-- cases on a price and on two numbers, where the first case has a number that is 0
least_by_cases : (high price : ℤ) (room asked : ℕ) → (high ≤ℤ price → asked ≡ 0) → cond (int_le high price) 0 (cond (nat_le room asked) room asked) ≡ min asked room
least_by_cases high price room asked none =
    cond_both (int_le high price) 0 _ (λ e. e ≡ min asked room)
    (λ above. let h : high ≤ℤ price = omega (arith, ints, le-true high price above) in omega (arith, none h))
    (λ below. cond_both (nat_le room asked) room asked (λ e. e ≡ min asked room)
    (λ cut. omega (arith, leb-true room asked cut))
    (λ free. omega (arith, leb-false room asked free)))

-- the demand is what the line asks for, or the batch maximum if that is less
pub scaled_demand_is : (t : Terms) (price : ℤ) → scaled_demand t price ≡ min (line t price) (t.room * span t)
unfolding scaled_demand line
scaled_demand_is t price =
    least_by_cases t.high price (t.room * span t) (line t price)
    (λ h. let zero : distance t.high price ≡ 0 = omega (arith, ints, distance_is t.high price) in rw zero (omega arith))

-- the demand, at a price that was passed on
pub ruleset demand_steps = (to_z-of_z, scaled_demand_is)
