use Rattle.flow_orders.proofs.AddedRows.{AreAdded}
use Rattle.flow_orders.proofs.left_over.add_residuals.Given as goal

abbrev pub invariant-loop-entry : goal.invariant-loop-entry
invariant-loop-entry l = AreAdded l.entry-items l.rate l.initial.residuals l.entry-index l.residuals
