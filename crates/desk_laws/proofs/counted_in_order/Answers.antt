use Rattle.desk_laws.proofs.Once.{counted_in_order}
use Rattle.desk_laws.proofs.counted_in_order.Goals as goal

pub returns : goal.returns
returns c = counted_in_order
