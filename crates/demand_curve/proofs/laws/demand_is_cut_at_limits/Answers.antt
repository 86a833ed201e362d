use Rattle.demand_curve.proofs.DemandLaws.{demand_is_cut_at_limits}
use Rattle.demand_curve.proofs.laws.demand_is_cut_at_limits.Goals as goal

pub returns : goal.returns
returns c = demand_is_cut_at_limits
