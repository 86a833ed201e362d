use Rattle.std.proofs.Common.{◌≡◌}
use Rattle.std.proofs.lemmas.Int.{to_z-of_z}
use Rattle.demand_curve.specs.Curve.{terms}
use Rattle.demand_curve.specs.Demand.{dual_floor}
use Rattle.demand_curve.proofs.DualLaws.{dual_is_by_cases}
use Rattle.demand_curve.proofs.Duals.{dual-on_line}
use Rattle.demand_curve.proofs.Curve.dual_on_line.Goals as goal

-- what is computed, as the contract states it
value_is : (c : goal.After-floor_square_over) → c.floor_square_over.result ≡ dual_floor (terms c.args.self.now) c.args.price
value_is c =
    let fits = c.ranges.price in
    let line_is = simp to_z-of_z at c.line.ensures.value in
    let value = c.floor_square_over.ensures.value in
    rw (value, line_is, c.unsigned_span.ensures.value, c.double_rate.ensures.value) (dual-on_line (terms c.args.self.now) c.args.price c.requires.on_line)

pub returns-clause-value : goal.returns-clause-value
returns-clause-value c = value_is c

pub returns-clause-most : goal.returns-clause-most
returns-clause-most c =
    rw (value_is c) ((dual_is_by_cases (terms c.args.self.now) c.args.self.now.within_limits c.args.price).small c.requires.in_range)
