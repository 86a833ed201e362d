use Rattle.demand_curve.proofs.RoundingLaws.{rounding_is_within_room}
use Rattle.demand_curve.proofs.laws.rounding_is_within_room.Goals as goal

pub returns : goal.returns
returns c = rounding_is_within_room
