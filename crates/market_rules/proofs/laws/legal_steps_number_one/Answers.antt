use Rattle.market_rules.proofs.LawProofs.{legal_steps_number_one}
use Rattle.market_rules.proofs.laws.legal_steps_number_one.Goals as goal

pub returns : goal.returns
returns c = legal_steps_number_one
