use Rattle.demand_curve.proofs.Parts.{one_part_is_a_unit}
use Rattle.demand_curve.proofs.laws.one_part_is_a_unit.Goals as goal

pub returns : goal.returns
returns c = one_part_is_a_unit
