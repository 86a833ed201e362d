use Rattle.flow_accounts.proofs.Credits.{credits_keep_law}
use Rattle.flow_accounts.proofs.laws.credits_keep_law.Goals as goal

pub returns : goal.returns
returns c = credits_keep_law
