use Rattle.flow_orders.proofs.MoveLaws.{moves_lower_the_dual}
use Rattle.flow_orders.proofs.laws.moves_lower_the_dual.Goals as goal

pub returns : goal.returns
returns c = moves_lower_the_dual
