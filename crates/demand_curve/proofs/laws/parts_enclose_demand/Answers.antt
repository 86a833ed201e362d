use Rattle.demand_curve.proofs.Parts.{parts_enclose_demand}
use Rattle.demand_curve.proofs.laws.parts_enclose_demand.Goals as goal

pub returns : goal.returns
returns c = parts_enclose_demand
