use Rattle.flow_accounts.proofs.Bounds.{no_balance_is_below_its_credit}
use Rattle.flow_accounts.proofs.laws.no_balance_is_below_its_credit.Goals as goal

pub returns : goal.returns
returns c = no_balance_is_below_its_credit
