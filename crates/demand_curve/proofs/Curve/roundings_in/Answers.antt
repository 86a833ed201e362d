use Rattle.std.proofs.Common.{◌≡◌, ◌*◌, ◌∙◌, sym, arith}
use Rattle.std.proofs.lemmas.Int.{ints, to_z-of_z}
use Rattle.demand_curve.specs.Demand.{floor_in, ceil_in}
use Rattle.demand_curve.specs.Curve.{terms}
use Rattle.demand_curve.proofs.Distances.{distance_is}
use Rattle.demand_curve.proofs.Parts.{parts_of_none, parts_of_room, parts_of_line}
use Rattle.demand_curve.proofs.Curve.roundings_in.Goals as goal

-- no demand
none : (c : goal.After-of_whole) → (floor_in c.args.parts (terms c.args.self.now) c.args.price ≡ 0) × (ceil_in c.args.parts (terms c.args.self.now) c.args.price ≡ 0)
none c = parts_of_none c.args.parts (terms c.args.self.now) c.args.self.now.within_limits c.args.price (omega (arith, ints))

pub returns-then-from-price-clause-floor : goal.returns-then-from-price-clause-floor
returns-then-from-price-clause-floor c = c.of_whole.ensures.floor ∙ sym (none c).0

pub returns-then-from-price-clause-ceil : goal.returns-then-from-price-clause-ceil
returns-then-from-price-clause-ceil c = c.of_whole.ensures.ceil ∙ sym (none c).1

-- the batch maximum
room : (c : goal.After-of_whole-then-price-from) → (floor_in c.args.parts (terms c.args.self.now) c.args.price ≡ c.args.parts * c.args.self.now.room) × (ceil_in c.args.parts (terms c.args.self.now) c.args.price ≡ c.args.parts * c.args.self.now.room)
room c = parts_of_room c.args.parts (terms c.args.self.now) c.args.self.now.within_limits c.args.price (omega (arith, ints))

pub returns-then-price-from-clause-floor : goal.returns-then-price-from-clause-floor
returns-then-price-from-clause-floor c = c.of_whole-then-price-from.ensures.floor ∙ rw (c.from-then-price-from.ensures, c.from-then-price-from-2.ensures) (sym (room c).0)

pub returns-then-price-from-clause-ceil : goal.returns-then-price-from-clause-ceil
returns-then-price-from-clause-ceil c = c.of_whole-then-price-from.ensures.ceil ∙ rw (c.from-then-price-from.ensures, c.from-then-price-from-2.ensures) (sym (room c).1)

-- between the limits
pub overflow_cast-below_high : goal.overflow_cast-below_high
overflow_cast-below_high c =
    let fits = c.ranges.price in
    let below = simp to_z-of_z at c.below_high.ensures.value in
    omega (arith, ints, below, distance_is c.args.self.now.high c.args.price, c.args.self.now.within_limits)

pub returns-else-price-from-clause-floor : goal.returns-else-price-from-clause-floor
returns-else-price-from-clause-floor c =
    let fits = c.ranges.price in
    let below = simp to_z-of_z at c.below_high.ensures.value in
    c.parts_between.ensures.floor ∙ sym (parts_of_line c.args.parts (terms c.args.self.now) c.args.price c.below_high.result below).0

pub returns-else-price-from-clause-ceil : goal.returns-else-price-from-clause-ceil
returns-else-price-from-clause-ceil c =
    let fits = c.ranges.price in
    let below = simp to_z-of_z at c.below_high.ensures.value in
    c.parts_between.ensures.ceil ∙ sym (parts_of_line c.args.parts (terms c.args.self.now) c.args.price c.below_high.result below).1
