use Rattle.demand_curve.proofs.Parts.{parts_move_little}
use Rattle.demand_curve.proofs.laws.parts_move_little.Goals as goal

pub returns : goal.returns
returns c = parts_move_little
