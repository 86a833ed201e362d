use Rattle.batch_audit.proofs.OneFinding.{one_finding}
use Rattle.batch_audit.proofs.laws.one_finding.Goals as goal

pub returns : goal.returns
returns c = one_finding
