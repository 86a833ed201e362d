-- How far from 0 prices are after the moves of a walk.
use Rattle.std.proofs.Common.{ℕ, ◌+◌, ◌^◌, ◌≤◌, ℤ, List, length, refl, arith}
use Rattle.std.specs.Prelude.{All}
use Rattle.std.proofs.lemmas.Int.{ints}
use Rattle.demand_curve.specs.Demand.{IsWithin}
use Rattle.flow_orders.specs.Orders.{Order}
use Rattle.flow_orders.specs.Outcomes.{end_of, IsLegalFrom}
use Rattle.flow_orders.proofs.Moving.{AreWithin, has_walked}

-- prices within 2^60 at the start are this near after the most moves that a batch may have
near_of : (start : List ℤ) → All (IsWithin (2 ^ 60)) start → AreWithin (2 ^ 60) start
near_of start range k d inside = let one = range k d inside in omega (arith, ints, one)

pub legal_near : (parts : ℕ) (orders : List Order) (start : List ℤ) (walk : List ℕ) → All (IsWithin (2 ^ 60)) start → IsLegalFrom parts orders start walk → length walk ≤ 65536
    → AreWithin (2 ^ 60 + 2 ^ 61) (end_of parts orders start walk)
legal_near parts orders start walk range legal few k d inside =
    let one = (has_walked parts orders (length start) start walk refl legal).range (2 ^ 60) (near_of start range) k d inside in
    omega (arith, one, few)
