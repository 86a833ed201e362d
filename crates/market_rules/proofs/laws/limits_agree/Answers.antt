use Rattle.market_rules.proofs.LawProofs.{limits_agree}
use Rattle.market_rules.proofs.laws.limits_agree.Goals as goal

pub returns : goal.returns
returns c = limits_agree
