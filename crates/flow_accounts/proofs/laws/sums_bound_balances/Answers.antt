use Rattle.flow_accounts.proofs.Bounds.{sums_bound_balances}
use Rattle.flow_accounts.proofs.laws.sums_bound_balances.Goals as goal

pub returns : goal.returns
returns c = sums_bound_balances
