use Rattle.flow_orders.proofs.MoveLaws.{moves_within_reach_settle}
use Rattle.flow_orders.proofs.laws.moves_within_reach_settle.Goals as goal

pub returns : goal.returns
returns c = moves_within_reach_settle
