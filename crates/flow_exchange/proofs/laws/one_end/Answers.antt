use Rattle.flow_exchange.proofs.Outcomes.{one_end}
use Rattle.flow_exchange.proofs.laws.one_end.Goals as goal

pub returns : goal.returns
returns c = one_end
