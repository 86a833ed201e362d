use Rattle.desk_laws.proofs.Unchanged.{accounts_change_only_orders}
use Rattle.desk_laws.proofs.accounts_change_only_orders.Goals as goal

pub returns : goal.returns
returns c = accounts_change_only_orders
