use Rattle.batch_certificate.specs.Verdicts.{HoldsBelow}
use Rattle.batch_certificate.specs.Weighing.{IsResidualWithin}
use Rattle.batch_certificate.proofs.check.wrong_residual.Given as goal

abbrev pub invariant-loop-asset : goal.invariant-loop-asset
invariant-loop-asset g l =
    HoldsBelow (IsResidualWithin l.residuals l.spreads l.squares (g.P.ClearedParts.clearing l.parts)) l.asset
