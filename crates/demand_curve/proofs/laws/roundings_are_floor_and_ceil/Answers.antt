use Rattle.demand_curve.proofs.RoundingLaws.{roundings_are_floor_and_ceil}
use Rattle.demand_curve.proofs.laws.roundings_are_floor_and_ceil.Goals as goal

pub returns : goal.returns
returns c = roundings_are_floor_and_ceil
