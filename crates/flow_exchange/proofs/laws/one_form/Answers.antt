use Rattle.flow_exchange.proofs.Outcomes.{one_form}
use Rattle.flow_exchange.proofs.laws.one_form.Goals as goal

pub returns : goal.returns
returns c = one_form
