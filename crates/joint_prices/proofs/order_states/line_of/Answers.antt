use Rattle.std.proofs.Common.{arith}
use Rattle.std.proofs.lemmas.Int.{ints}
use Rattle.demand_curve.specs.Curve.{terms}
use Rattle.joint_prices.proofs.OrderStateFacts.{line_is}
use Rattle.joint_prices.proofs.order_states.line_of.Goals as goal

pub returns-clause-value : goal.returns-clause-value
returns-clause-value c = line_is (terms c.args.curve) _ _ _ c.from.ensures (omega (arith, ints, c.span.ensures.value, c.span.ensures.most)) c.from-2.ensures
