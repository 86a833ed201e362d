use Rattle.std.proofs.Common.{◌-ℤ◌, FitsSigned, arith}
use Rattle.std.specs.Int.{w64, w128}
use Rattle.std.proofs.lemmas.Int.{ints, to_z-of_z, fits_signed_from_abs}
use Rattle.demand_curve.specs.Curve.{terms}
use Rattle.joint_rounds.specs.OrderStates.{money}
use Rattle.joint_rounds.proofs.StateFacts.{dear_is}
use Rattle.joint_rounds.proofs.order_states.dear.Goals as goal

pub returns : goal.returns
returns c =
    let v = to_z-of_z w128 c.cost.result (record { sfits = c.cost.type_inv }) in
    let a = to_z-of_z w128 c.ask.result (record { sfits = c.ask.type_inv }) in
    let m = to_z-of_z w128 c.money.result (record { sfits = c.money.type_inv }) in
    let p = to_z-of_z w128 c.args.price c.ranges.price in
    let limits = c.args.curve.within_limits in
    let fits : FitsSigned w64 c.args.curve.high = omega (arith, ints, limits) in
    let h = to_z-of_z w64 c.args.curve.high fits in
    let ask = rw (p, h) at c.ask.ensures.value in
    let ask_small = c.ask.ensures.small in
    let is = rw (a, ask) at c.money.ensures.value in
    let small = rw a at c.money.ensures.small in
    let d = to_z-of_z w128 (c.cost.result -ℤ c.money.result) (fits_signed_from_abs w128 _ (omega (arith, ints, c.cost.ensures.small, small, ask_small))) in
    rw (v, m, d) (record {
      value = dear_is c.args.s (terms c.args.curve) c.args.price c.cost.result c.money.result c.args.line c.args.share c.requires.line c.cost.ensures.value is;
      small = omega (arith, ints, c.cost.ensures.small, small, ask_small);
    })
