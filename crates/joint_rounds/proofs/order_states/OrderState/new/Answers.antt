use Rattle.std.proofs.Common.{arith}
use Rattle.std.specs.Int.{w128}
use Rattle.std.proofs.lemmas.Int.{to_z-of_z}
use Rattle.demand_curve.specs.Curve.{terms}
use Rattle.joint_rounds.proofs.StateFacts.{steep_most}
use Rattle.joint_rounds.proofs.order_states.OrderState.new.Goals as goal

pub slope-requires-clause-steep : goal.slope-requires-clause-steep
slope-requires-clause-steep c =
    let limits = c.args.curve.within_limits in
    let v = to_z-of_z w128 c.dear-v.result (record { sfits = c.dear-v.type_inv }) in
    let k = rw (v, c.tau-m.ensures.value, c.line_at-line.ensures.value) at c.stiffness-stiffness.ensures.value in
    steep_most c.args.s (terms c.args.curve) c.dear-v.result c.args.share c.stiffness-stiffness.result c.args.curve.room (omega (arith, c.requires.share.1)) (omega (arith, limits.room_most, limits.rate_most)) (rw (← c.requires.line) c.requires.least) k
