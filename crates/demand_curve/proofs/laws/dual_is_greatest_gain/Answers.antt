use Rattle.demand_curve.proofs.DualLaws.{dual_is_greatest_gain}
use Rattle.demand_curve.proofs.laws.dual_is_greatest_gain.Goals as goal

pub returns : goal.returns
returns c = dual_is_greatest_gain
