use Rattle.excess_bounds.proofs.ExcessLaws.{grains_move_excess_little}
use Rattle.excess_bounds.proofs.laws.grains_move_excess_little.Goals as goal

pub returns : goal.returns
returns c = grains_move_excess_little
