use Rattle.std.proofs.Common.{◌≡◌, drop}
use Rattle.weight_rows.specs.Rows.{weight_in}
use Rattle.weight_rows.proofs.rows.WeightRow.weight_of.Given as goal

abbrev pub invariant-loop-entry : goal.invariant-loop-entry
invariant-loop-entry l = weight_in (drop l.entry-index l.entry-items) l.asset ≡ weight_in l.self l.asset
