use Rattle.flow_orders.proofs.GapBound.{commons_exist}
use Rattle.flow_orders.proofs.laws.commons_exist.Goals as goal

pub returns : goal.returns
returns c = commons_exist
