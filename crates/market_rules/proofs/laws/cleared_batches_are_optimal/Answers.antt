use Rattle.market_rules.proofs.LawProofs.{cleared_batches_are_optimal}
use Rattle.market_rules.proofs.laws.cleared_batches_are_optimal.Goals as goal

pub returns : goal.returns
returns c = cleared_batches_are_optimal
