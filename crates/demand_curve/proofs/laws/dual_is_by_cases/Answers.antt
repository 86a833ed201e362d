use Rattle.demand_curve.proofs.DualLaws.{dual_is_by_cases}
use Rattle.demand_curve.proofs.laws.dual_is_by_cases.Goals as goal

pub returns : goal.returns
returns c = dual_is_by_cases
