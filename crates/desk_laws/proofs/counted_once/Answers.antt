use Rattle.desk_laws.proofs.Once.{counted_once}
use Rattle.desk_laws.proofs.counted_once.Goals as goal

pub returns : goal.returns
returns c = counted_once
