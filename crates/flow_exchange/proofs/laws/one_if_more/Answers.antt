use Rattle.flow_exchange.proofs.Outcomes.{one_if_more}
use Rattle.flow_exchange.proofs.laws.one_if_more.Goals as goal

pub returns : goal.returns
returns c = one_if_more
