use Rattle.joint_rounds.proofs.RowAdding.{AreAdded, row_by}
use Rattle.joint_rounds.proofs.sums.add_row.Given as goal

abbrev pub invariant-loop-entry : goal.invariant-loop-entry
invariant-loop-entry l = AreAdded l.entry-items (row_by l.fn.factor) l.initial.sums l.entry-index l.sums
