use Rattle.std.proofs.Common.{◌≡◌, ◌-◌, ◌≤◌, length}
use Rattle.weight_rows.specs.Faults.{asset_before, HasNoFaultBefore}
use Rattle.wire_records.proofs.place.RowView.first_fault.Given as goal

abbrev pub invariant-loop-entry : goal.invariant-loop-entry
invariant-loop-entry l = record { within : l.place ≤ length l.self; none : HasNoFaultBefore l.self l.place; before_is : l.before ≡ asset_before l.self l.place }

abbrev pub decreases-loop-entry : goal.decreases-loop-entry
decreases-loop-entry l = length l.self - l.place
