use Rattle.std.proofs.Common.{rules}
use Rattle.batch_certificate.proofs.check.is_within_bound.Goals as goal

pub returns-then-residual-residuals : goal.returns-then-residual-residuals
returns-then-residual-residuals c = search rules
