use Rattle.std.proofs.Common.{◌≡◌, List, ◌++◌, length}
use Rattle.flow_orders.specs.Orders.{Order}
use Rattle.answer_text.specs.Texts.{separated}
use Rattle.answer_text.specs.Accounts.{account_orders, order_text}
use Rattle.answer_text.proofs.accounts.put_orders.Given as goal

abbrev pub invariant-loop-order : goal.invariant-loop-order
invariant-loop-order l = record {
  before : l.out.before ≡ l.fn.out.before;
  put : (done : List Order) × (account_orders l.account l.book.orders ≡ done ++ account_orders l.account l.order-iterator) × (length done ≡ l.count)
      × (l.out.text ≡ l.fn.out.text ++ separated (order_text l.tickers) done);
}
