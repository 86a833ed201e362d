use Rattle.market_rules.proofs.LawProofs.{journals_hold_deposits}
use Rattle.market_rules.proofs.laws.journals_hold_deposits.Goals as goal

pub returns : goal.returns
returns c = journals_hold_deposits
