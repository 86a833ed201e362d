use Rattle.flow_laws.proofs.GoingOn.{sessions_go_on}
use Rattle.flow_laws.proofs.sessions_go_on.Goals as goal

pub returns : goal.returns
returns c = sessions_go_on
