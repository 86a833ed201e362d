use Rattle.std.proofs.Common.{◌-ℤ◌, FitsSigned, arith}
use Rattle.std.specs.Int.{w64, w128}
use Rattle.std.proofs.lemmas.Int.{ints, to_z-of_z, fits_signed_from_abs}
use Rattle.demand_curve.specs.Curve.{terms}
use Rattle.joint_prices.proofs.OrderStateFacts.{dear_is}
use Rattle.joint_prices.proofs.order_states.dear.Goals as goal

pub returns-clause-value : goal.returns-clause-value
returns-clause-value c =
    let v = to_z-of_z w128 c.cost.result (record { sfits = c.cost.type_inv }) in
    let a = to_z-of_z w128 c.ask.result (record { sfits = c.ask.type_inv }) in
    let p = to_z-of_z w128 c.args.price c.ranges.price in
    let limits = c.args.curve.within_limits in
    let fits : FitsSigned w64 c.args.curve.high = omega (arith, ints, limits) in
    let h = to_z-of_z w64 c.args.curve.high fits in
    let d = to_z-of_z w128 (c.cost.result -ℤ c.ask.result) (fits_signed_from_abs w128 _ (omega (arith, ints, c.cost.ensures.small, c.ask.ensures.small))) in
    rw (v, a, d) (dear_is (terms c.args.curve) c.args.price c.cost.result c.ask.result c.args.line c.args.share c.requires.line c.cost.ensures.value (rw (p, h) at c.ask.ensures.value))
