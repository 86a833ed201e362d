use Rattle.flow_accounts.proofs.Moves.{money_changes}
use Rattle.flow_accounts.proofs.laws.money_changes.Goals as goal

pub returns : goal.returns
returns c = money_changes
