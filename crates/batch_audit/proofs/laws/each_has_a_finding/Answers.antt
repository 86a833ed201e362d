use Rattle.batch_audit.proofs.SomeFinding.{each_has_a_finding}
use Rattle.batch_audit.proofs.laws.each_has_a_finding.Goals as goal

pub returns : goal.returns
returns c = each_has_a_finding
