use Rattle.excess_bounds.proofs.ExcessLaws.{excess_is_enclosed}
use Rattle.excess_bounds.proofs.laws.excess_is_enclosed.Goals as goal

pub returns : goal.returns
returns c = excess_is_enclosed
