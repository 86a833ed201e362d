use Rattle.excess_bounds.proofs.ColumnLaws.{columns_list_orders}
use Rattle.excess_bounds.proofs.laws.columns_list_orders.Goals as goal

pub returns : goal.returns
returns c = columns_list_orders
