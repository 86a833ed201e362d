use Rattle.order_book.proofs.EntrySums.{IsLowered}
use Rattle.order_book.proofs.sums.NeedSums.lower_entries.Given as goal

abbrev pub invariant-loop-entry : goal.invariant-loop-entry
invariant-loop-entry l = IsLowered l.account l.units l.entries l.initial.self.table l.self.table l.entry-index
