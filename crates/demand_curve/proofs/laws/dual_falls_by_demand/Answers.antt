use Rattle.demand_curve.proofs.DualLaws.{dual_falls_by_demand}
use Rattle.demand_curve.proofs.laws.dual_falls_by_demand.Goals as goal

pub returns : goal.returns
returns c = dual_falls_by_demand
