use Rattle.flow_laws.proofs.Resumed.{resumptions_keep_promises}
use Rattle.flow_laws.proofs.resumptions_keep_promises.Goals as goal

pub returns : goal.returns
returns c = resumptions_keep_promises
