use Rattle.fill_caps.proofs.RowMoves.{IsMovedTo}
use Rattle.fill_caps.proofs.entries.settle_entries.Given as goal

abbrev pub invariant-loop-entry : goal.invariant-loop-entry
invariant-loop-entry l = IsMovedTo l.prices l.account l.rate l.entries l.initial.accounts l.accounts l.initial.exchange l.exchange l.entry-index
