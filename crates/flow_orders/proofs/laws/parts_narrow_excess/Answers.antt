use Rattle.flow_orders.proofs.MoveLaws.{parts_narrow_excess}
use Rattle.flow_orders.proofs.laws.parts_narrow_excess.Goals as goal

pub returns : goal.returns
returns c = parts_narrow_excess
