use Rattle.std.proofs.Common.{FitsSigned, w64, arith, ◌-ℤ◌}
use Rattle.std.proofs.lemmas.Int.{ints, to_z-of_z}
use Rattle.demand_curve.specs.Curve.{terms}
use Rattle.demand_curve.proofs.Limits.{span_is}
use Rattle.demand_curve.proofs.Curve.span.Goals as goal

pub returns-clause-value : goal.returns-clause-value
returns-clause-value c =
    let curve = c.args.self.now in
    let low : FitsSigned w64 curve.low = omega (arith, ints, curve.within_limits) in
    let high : FitsSigned w64 curve.high = omega (arith, ints, curve.within_limits) in
    let apart : FitsSigned w64 (curve.high -ℤ curve.low) = omega (arith, ints, curve.within_limits) in
    simp to_z-of_z (span_is (terms curve) curve.within_limits)
