use Rattle.flow_accounts.proofs.Credits.{unit_credit_is_set}
use Rattle.flow_accounts.proofs.laws.unit_credit_is_set.Goals as goal

pub returns : goal.returns
returns c = unit_credit_is_set
