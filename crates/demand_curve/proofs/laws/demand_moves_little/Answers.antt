use Rattle.demand_curve.proofs.DemandLaws.{demand_moves_little}
use Rattle.demand_curve.proofs.laws.demand_moves_little.Goals as goal

pub returns : goal.returns
returns c = demand_moves_little
