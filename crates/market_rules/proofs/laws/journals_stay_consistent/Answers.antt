use Rattle.market_rules.proofs.LawProofs.{journals_stay_consistent}
use Rattle.market_rules.proofs.laws.journals_stay_consistent.Goals as goal

pub returns : goal.returns
returns c = journals_stay_consistent
