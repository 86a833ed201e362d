use Rattle.demand_curve.proofs.Smooth.{dual_is_smooth}
use Rattle.demand_curve.proofs.laws.dual_is_smooth.Goals as goal

pub returns : goal.returns
returns c = dual_is_smooth
