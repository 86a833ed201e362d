use Rattle.batch_certificate.proofs.OneVerdict.{one_verdict}
use Rattle.batch_certificate.proofs.laws.one_verdict.Goals as goal

pub returns : goal.returns
returns c = one_verdict
