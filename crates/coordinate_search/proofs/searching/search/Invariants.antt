use Rattle.std.proofs.Common.{◌≡◌, length}
use Rattle.coordinate_search.proofs.InTurn.{IsSearching}
use Rattle.coordinate_search.proofs.searching.search.Given as goal

abbrev pub invariant-loop-made : goal.invariant-loop-made
invariant-loop-made l =
    IsSearching l.parts l.fn.work.orders l.fn.work.prices l.work.orders l.work.prices l.next l.trace.items × (length l.trace.items ≡ l._made)
