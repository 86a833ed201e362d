use Rattle.batch_certificate.proofs.Sums.{IsCostBefore}
use Rattle.batch_certificate.proofs.certificate.cost.Given as goal

abbrev pub invariant-loop-asset : goal.invariant-loop-asset
invariant-loop-asset l = IsCostBefore l.prices l.residuals l.asset l.sum
