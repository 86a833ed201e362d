use Rattle.flow_accounts.proofs.Moves.{money_moves}
use Rattle.flow_accounts.proofs.laws.money_moves.Goals as goal

pub returns : goal.returns
returns c = money_moves
