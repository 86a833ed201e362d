use Rattle.flow_laws.proofs.CutHistories.{histories_go_on}
use Rattle.flow_laws.proofs.histories_go_on.Goals as goal

pub returns : goal.returns
returns c = histories_go_on
