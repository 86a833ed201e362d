use Rattle.demand_curve.proofs.RoundingLaws.{roundings_enclose_demand}
use Rattle.demand_curve.proofs.laws.roundings_enclose_demand.Goals as goal

pub returns : goal.returns
returns c = roundings_enclose_demand
