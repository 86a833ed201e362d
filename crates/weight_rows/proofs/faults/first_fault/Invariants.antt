use Rattle.std.proofs.Common.{◌≡◌}
use Rattle.weight_rows.specs.Faults.{asset_before, HasNoFaultBefore}
use Rattle.weight_rows.proofs.faults.first_fault.Given as goal

abbrev pub invariant-loop-place : goal.invariant-loop-place
invariant-loop-place l = record { none : HasNoFaultBefore l.entries l.place; before_is : l.before ≡ asset_before l.entries l.place }
