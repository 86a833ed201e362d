use Rattle.std.proofs.Common.{◌≡◌, take}
use Rattle.statement_rules.specs.Holdings.{own_orders}
use Rattle.account_statement.proofs.carried.own_book.Given as goal

abbrev pub invariant-loop-order : goal.invariant-loop-order
invariant-loop-order l = l.book.orders ≡ own_orders l.account (take l.order-index l.orders)
