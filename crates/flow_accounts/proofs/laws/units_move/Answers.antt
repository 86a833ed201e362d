use Rattle.flow_accounts.proofs.Moves.{units_move}
use Rattle.flow_accounts.proofs.laws.units_move.Goals as goal

pub returns : goal.returns
returns c = units_move
