use Rattle.flow_exchange.proofs.Outcomes.{faultless_is_determined}
use Rattle.flow_exchange.proofs.laws.faultless_is_determined.Goals as goal

pub returns : goal.returns
returns c = faultless_is_determined
