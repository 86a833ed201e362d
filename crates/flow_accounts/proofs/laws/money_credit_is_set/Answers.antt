use Rattle.flow_accounts.proofs.Credits.{money_credit_is_set}
use Rattle.flow_accounts.proofs.laws.money_credit_is_set.Goals as goal

pub returns : goal.returns
returns c = money_credit_is_set
