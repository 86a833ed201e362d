use Rattle.flow_orders.specs.Outcomes.{IsAdmissibleOutcome}
use Rattle.answer_laws.proofs.InTheMarket.{the_echo_in_the_market}
use Rattle.answer_laws.proofs.the_echo_in_the_market.Goals as goal

pub returns : goal.returns
returns c = the_echo_in_the_market IsAdmissibleOutcome
