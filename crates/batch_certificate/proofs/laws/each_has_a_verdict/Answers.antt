use Rattle.batch_certificate.proofs.Judging.{each_has_a_verdict}
use Rattle.batch_certificate.proofs.laws.each_has_a_verdict.Goals as goal

pub returns : goal.returns
returns c = each_has_a_verdict
