use Rattle.std.proofs.Common.{rules}
use Rattle.demand_curve.proofs.Curve.is_rounded.Goals as goal

pub returns-then-traded-demand : goal.returns-then-traded-demand
returns-then-traded-demand c = search rules
