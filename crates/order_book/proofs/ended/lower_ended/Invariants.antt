use Rattle.order_book.proofs.Ending.{IsEndedTo}
use Rattle.order_book.proofs.ended.lower_ended.Given as goal

abbrev pub invariant-loop-order : goal.invariant-loop-order
invariant-loop-order l = IsEndedTo l.batch l.orders l.initial.sums.table l.sums.table l.order-index
