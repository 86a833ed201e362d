use Rattle.batch_audit.proofs.OneFinding.{findings_tell_legality}
use Rattle.batch_audit.proofs.laws.findings_tell_legality.Goals as goal

pub returns : goal.returns
returns c = findings_tell_legality
