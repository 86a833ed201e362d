use Rattle.kept_exchange.proofs.OneLinesStatus.{one_status}
use Rattle.kept_exchange.proofs.laws.lines_have_one_status.Goals as goal

pub returns : goal.returns
returns c = one_status
