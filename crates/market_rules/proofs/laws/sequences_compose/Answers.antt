use Rattle.market_rules.proofs.LawProofs.{sequences_compose}
use Rattle.market_rules.proofs.laws.sequences_compose.Goals as goal

pub returns : goal.returns
returns c = sequences_compose
