use Rattle.desk_laws.proofs.Unchanged.{others_change_no_orders}
use Rattle.desk_laws.proofs.others_change_no_orders.Goals as goal

pub returns : goal.returns
returns c = others_change_no_orders
