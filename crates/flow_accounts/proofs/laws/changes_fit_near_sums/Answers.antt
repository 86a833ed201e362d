use Rattle.flow_accounts.proofs.Bounds.{changes_fit_near_sums}
use Rattle.flow_accounts.proofs.laws.changes_fit_near_sums.Goals as goal

pub returns : goal.returns
returns c = changes_fit_near_sums
