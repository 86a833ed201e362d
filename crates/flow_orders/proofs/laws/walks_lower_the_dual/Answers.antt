use Rattle.flow_orders.proofs.WalkLaws.{walks_lower_the_dual}
use Rattle.flow_orders.proofs.laws.walks_lower_the_dual.Goals as goal

pub returns : goal.returns
returns c = walks_lower_the_dual
