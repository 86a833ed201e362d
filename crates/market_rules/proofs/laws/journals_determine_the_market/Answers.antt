use Rattle.market_rules.proofs.LawProofs.{journals_determine_the_market}
use Rattle.market_rules.proofs.laws.journals_determine_the_market.Goals as goal

pub returns : goal.returns
returns c = journals_determine_the_market
