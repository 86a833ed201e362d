use Rattle.flow_accounts.proofs.Moves.{assets_start_at_zero}
use Rattle.flow_accounts.proofs.laws.assets_start_at_zero.Goals as goal

pub returns : goal.returns
returns c = assets_start_at_zero
