use Rattle.std.proofs.Common.{◌∙◌, sym, ap}
use Rattle.demand_curve.specs.Curve.{terms}
use Rattle.joint_prices.specs.OrderStates.{line}
use Rattle.joint_prices.proofs.OrderStateFacts.{line_least, line_most}
use Rattle.joint_rounds.proofs.moving.state_of.Goals as goal

pub new-requires-clause-least : goal.new-requires-clause-least
new-requires-clause-least c =
    let curve = c.curve-curve.result in
    rw (c.requires.line ∙ ap line (sym c.curve-curve.ensures.value)) (line_least (terms curve) curve.within_limits)

pub new-requires-clause-most : goal.new-requires-clause-most
new-requires-clause-most c =
    let curve = c.curve-curve.result in
    rw (c.requires.line ∙ ap line (sym c.curve-curve.ensures.value)) (line_most (terms curve) curve.within_limits)
