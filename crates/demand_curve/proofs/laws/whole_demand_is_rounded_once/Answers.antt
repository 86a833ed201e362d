use Rattle.demand_curve.proofs.RoundingLaws.{whole_demand_is_rounded_once}
use Rattle.demand_curve.proofs.laws.whole_demand_is_rounded_once.Goals as goal

pub returns : goal.returns
returns c = whole_demand_is_rounded_once
