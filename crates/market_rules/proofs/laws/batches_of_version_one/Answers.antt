use Rattle.market_rules.proofs.LawProofs.{batches_of_version_one}
use Rattle.market_rules.proofs.laws.batches_of_version_one.Goals as goal

pub returns : goal.returns
returns c = batches_of_version_one
