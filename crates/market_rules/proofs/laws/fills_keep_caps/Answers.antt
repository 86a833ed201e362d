use Rattle.market_rules.proofs.LawProofs.{fills_keep_caps}
use Rattle.market_rules.proofs.laws.fills_keep_caps.Goals as goal

pub returns : goal.returns
returns c = fills_keep_caps
