use Rattle.market_rules.proofs.LawProofs.{batches_keep_totals}
use Rattle.market_rules.proofs.laws.batches_keep_totals.Goals as goal

pub returns : goal.returns
returns c = batches_keep_totals
