use Rattle.demand_curve.proofs.DemandLaws.{span_is_in_range}
use Rattle.demand_curve.proofs.laws.span_is_in_range.Goals as goal

pub returns : goal.returns
returns c = span_is_in_range
