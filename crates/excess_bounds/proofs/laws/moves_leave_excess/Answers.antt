use Rattle.excess_bounds.proofs.ExcessLaws.{moves_leave_excess}
use Rattle.excess_bounds.proofs.laws.moves_leave_excess.Goals as goal

pub returns : goal.returns
returns c = moves_leave_excess
