use Rattle.demand_curve.proofs.RoundingLaws.{demand_never_rises}
use Rattle.demand_curve.proofs.laws.demand_never_rises.Goals as goal

pub returns : goal.returns
returns c = demand_never_rises
