use Rattle.residual_account.proofs.Standing.{none_used}
use Rattle.residual_account.proofs.no_units.Goals as goal

pub returns : goal.returns
returns c = none_used
