use Rattle.canonical_rule.proofs.OneCanonical.{joint_prices_skip_no_more}
use Rattle.canonical_rule.proofs.laws.joint_prices_skip_no_more.Goals as goal

pub returns : goal.returns
returns c = joint_prices_skip_no_more
