use Rattle.market_rules.proofs.LawProofs.{skips_lower_the_dual}
use Rattle.market_rules.proofs.laws.skips_lower_the_dual.Goals as goal

pub returns : goal.returns
returns c = skips_lower_the_dual
