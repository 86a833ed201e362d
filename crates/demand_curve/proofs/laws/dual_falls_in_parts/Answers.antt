use Rattle.demand_curve.proofs.DualLaws.{dual_falls_in_parts}
use Rattle.demand_curve.proofs.laws.dual_falls_in_parts.Goals as goal

pub returns : goal.returns
returns c = dual_falls_in_parts
