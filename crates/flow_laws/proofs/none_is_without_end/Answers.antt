use Rattle.flow_laws.proofs.SomeEnd.{none_is_without_end}
use Rattle.flow_laws.proofs.none_is_without_end.Goals as goal

pub returns : goal.returns
returns c = none_is_without_end
