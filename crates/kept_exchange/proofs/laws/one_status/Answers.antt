use Rattle.kept_exchange.proofs.OneStatus.{one_status}
use Rattle.kept_exchange.proofs.laws.one_status.Goals as goal

pub returns : goal.returns
returns c = one_status
