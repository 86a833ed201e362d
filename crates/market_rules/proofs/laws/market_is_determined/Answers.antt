use Rattle.market_rules.proofs.LawProofs.{market_is_determined}
use Rattle.market_rules.proofs.laws.market_is_determined.Goals as goal

pub returns : goal.returns
returns c = market_is_determined
