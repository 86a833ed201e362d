use Rattle.flow_laws.proofs.Resumed.{resumptions_go_on}
use Rattle.flow_laws.proofs.resumptions_go_on.Goals as goal

pub returns : goal.returns
returns c = resumptions_go_on
