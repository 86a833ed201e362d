use Rattle.flow_orders.proofs.GapBound.{gaps_are_bounded}
use Rattle.flow_orders.proofs.laws.gaps_are_bounded.Goals as goal

pub returns : goal.returns
returns c = gaps_are_bounded
