use Rattle.weight_rows.proofs.RowLemmas.{IsPriceBefore}
use Rattle.weight_rows.proofs.rows.WeightRow.price.Given as goal

abbrev pub invariant-loop-entry : goal.invariant-loop-entry
invariant-loop-entry l = IsPriceBefore l.entry-items l.prices l.entry-index l.sum
