use Rattle.market_rules.proofs.LawProofs.{steps_keep_consistency}
use Rattle.market_rules.proofs.laws.steps_keep_consistency.Goals as goal

pub returns : goal.returns
returns c = steps_keep_consistency
