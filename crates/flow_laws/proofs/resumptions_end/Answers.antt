use Rattle.flow_laws.proofs.ResumeEnds.{resumptions_end}
use Rattle.flow_laws.proofs.resumptions_end.Goals as goal

pub returns : goal.returns
returns c = resumptions_end
