use Rattle.demand_curve.specs.Curve.{terms}
use Rattle.joint_rounds.proofs.StateFacts.{line_at_is, shifted_most}
use Rattle.joint_rounds.proofs.order_states.line_at.Goals as goal

pub returns-clause-value : goal.returns-clause-value
returns-clause-value c = line_at_is c.args.s (terms c.args.curve) _ _ c.requires.line c.coarseness.ensures.value

pub returns-clause-most : goal.returns-clause-most
returns-clause-most c = shifted_most _ _ c.requires.most
