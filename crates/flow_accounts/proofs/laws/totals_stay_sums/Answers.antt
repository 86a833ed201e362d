use Rattle.flow_accounts.proofs.SumsKept.{totals_stay_sums}
use Rattle.flow_accounts.proofs.laws.totals_stay_sums.Goals as goal

pub returns : goal.returns
returns c = totals_stay_sums
