use Rattle.std.proofs.Common.{◌≡◌, ◌≤◌, ◌-◌, ◌*◌, arith}
use Rattle.std.proofs.lemmas.Int.{to_z-of_z}
use Rattle.demand_curve.specs.Demand.{dual_floor}
use Rattle.demand_curve.specs.Curve.{terms}
use Rattle.demand_curve.proofs.Duals.{dual-at_room}
use Rattle.demand_curve.proofs.Curve.dual_at_room.Goals as goal

-- what is subtracted is at most what it is subtracted from, and the difference is the dual value
parts : (c : goal.After-div_ceil) → (c.div_ceil.result ≤ c.from-room.result * c.below_high.result) × (c.from-room.result * c.below_high.result - c.div_ceil.result ≡ dual_floor (terms c.args.self.now) c.args.price)
parts c =
    let fits = c.ranges.price in
    let below = simp to_z-of_z at c.below_high.ensures.value in
    let up = c.div_ceil.ensures in
    let room = c.from-room.ensures in
    rw (up, room, below, c.unsigned_span.ensures.value, c.double_rate.ensures.value)
    (dual-at_room (terms c.args.self.now) c.args.price (omega (arith, c.unsigned_span.ensures)) (omega (arith, c.double_rate.ensures)) c.requires.cut)

pub overflow_sub-result : goal.overflow_sub-result
overflow_sub-result c = (parts c).0

pub returns-clause-value : goal.returns-clause-value
returns-clause-value c = (parts c).1
