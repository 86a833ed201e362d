use Rattle.rate_rounding.proofs.Roundings.{floors_are_roundings}
use Rattle.rate_rounding.proofs.laws.floors_are_roundings.Goals as goal

pub returns : goal.returns
returns c = floors_are_roundings
