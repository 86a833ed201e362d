use Rattle.flow_orders.proofs.WelfareLaws.{welfare_is_as_said}
use Rattle.flow_orders.proofs.laws.welfare_is_as_said.Goals as goal

pub returns : goal.returns
returns c = welfare_is_as_said
