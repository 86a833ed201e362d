use Rattle.flow_accounts.proofs.Moves.{accounts_open_empty}
use Rattle.flow_accounts.proofs.laws.accounts_open_empty.Goals as goal

pub returns : goal.returns
returns c = accounts_open_empty
