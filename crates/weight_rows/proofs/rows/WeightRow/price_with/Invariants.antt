use Rattle.std.proofs.Common.{set}
use Rattle.weight_rows.proofs.RowLemmas.{IsPriceBefore}
use Rattle.weight_rows.proofs.rows.WeightRow.price_with.Given as goal

abbrev pub invariant-loop-entry : goal.invariant-loop-entry
invariant-loop-entry l = IsPriceBefore l.entry-items (set l.prices l.asset l.price) l.entry-index l.sum
