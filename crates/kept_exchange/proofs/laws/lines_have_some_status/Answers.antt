use Rattle.kept_exchange.proofs.SomeLinesStatus.{some_status}
use Rattle.kept_exchange.proofs.laws.lines_have_some_status.Goals as goal

pub returns : goal.returns
returns c = some_status
