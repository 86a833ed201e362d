use Rattle.demand_curve.proofs.RoundingLaws.{roundings_move_little}
use Rattle.demand_curve.proofs.laws.roundings_move_little.Goals as goal

pub returns : goal.returns
returns c = roundings_move_little
