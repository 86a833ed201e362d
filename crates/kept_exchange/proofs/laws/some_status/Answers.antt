use Rattle.kept_exchange.proofs.SomeStatus.{some_status}
use Rattle.kept_exchange.proofs.laws.some_status.Goals as goal

pub returns : goal.returns
returns c = some_status
