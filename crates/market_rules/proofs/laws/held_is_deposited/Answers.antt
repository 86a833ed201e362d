use Rattle.market_rules.proofs.LawProofs.{held_is_deposited}
use Rattle.market_rules.proofs.laws.held_is_deposited.Goals as goal

pub returns : goal.returns
returns c = held_is_deposited
