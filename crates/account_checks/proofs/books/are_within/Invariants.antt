use Rattle.std.proofs.Common.{ℕ, ◌<◌, ◌≤◌, get_or}
use Rattle.flow_orders.specs.Orders.{Order, terms_of}
use Rattle.account_checks.proofs.books.are_within.Given as goal

abbrev pub invariant-loop-place : goal.invariant-loop-place
invariant-loop-place l = (k : ℕ) (o : Order) → k < l.place → get_or l.rates k 0 ≤ (terms_of (get_or l.orders k o)).room
