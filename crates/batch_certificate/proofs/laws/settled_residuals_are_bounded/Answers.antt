use Rattle.batch_certificate.proofs.Bounds.{settled_residuals_are_bounded}
use Rattle.batch_certificate.proofs.laws.settled_residuals_are_bounded.Goals as goal

pub returns : goal.returns
returns c = settled_residuals_are_bounded
