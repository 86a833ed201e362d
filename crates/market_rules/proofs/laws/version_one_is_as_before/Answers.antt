use Rattle.market_rules.proofs.LawProofs.{version_one_is_as_before}
use Rattle.market_rules.proofs.laws.version_one_is_as_before.Goals as goal

pub returns : goal.returns
returns c = version_one_is_as_before
