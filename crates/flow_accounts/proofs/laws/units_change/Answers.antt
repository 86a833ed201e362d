use Rattle.flow_accounts.proofs.Moves.{units_change}
use Rattle.flow_accounts.proofs.laws.units_change.Goals as goal

pub returns : goal.returns
returns c = units_change
