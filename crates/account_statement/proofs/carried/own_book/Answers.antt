use Rattle.std.proofs.Common.{ap, sym, ◌∙◌}
use Rattle.order_book.specs.Book.{Book}
use Rattle.account_statement.proofs.Carrying.{own_one, own_skipped, own_below, own_few, own_there, on_err}
use Rattle.account_statement.proofs.carried.own_book.Goals.{then-account+in_ok-copy_order, else-account}
use Rattle.account_statement.proofs.carried.own_book.Goals as goal

pub copy_order-requires-clause-few : goal.copy_order-requires-clause-few
copy_order-requires-clause-few c = own_few c.args.account c.args.orders.now c.loop-order.order-index c.order-item.result c.loop-order-test.true c.order-item.is c.requires.few c.loop-order.book.orders c.loop-order.invariant

pub copy_order-requires-clause-above : goal.copy_order-requires-clause-above
copy_order-requires-clause-above c = own_below c.args.account c.args.orders.now c.loop-order.order-index c.order-item.result c.loop-order-test.true c.order-item.is c.requires.ascending c.loop-order.book.orders c.loop-order.invariant

pub returns-in_err-copy_order-clause-some : goal.returns-in_err-copy_order-clause-some
returns-in_err-copy_order-clause-some c = on_err c.from_residual.result (own_there c.args.account c.args.orders.now c.loop-order.order-index c.order-item.result c.loop-order-test.true c.order-item.is (sym c.account.ensures.value ∙ c.if-account.true))

pub loop-order-preserved : goal.loop-order-preserved
loop-order-preserved c = elim c.if-account.branch [
  | then-account+in_ok-copy_order w ↦
      ap (λ (b : Book). b.orders) w.book-is ∙ w.in_ok-copy_order.ensures
      ∙ own_one c.args.account c.args.orders.now c.loop-order.order-index c.order-item.result c.loop-order-test.true c.order-item.is (sym c.account.ensures.value ∙ w.if-account.true) c.loop-order.book.orders c.loop-order.invariant
  | else-account w ↦
      ap (λ (b : Book). b.orders) w.book-is
      ∙ own_skipped c.args.account c.args.orders.now c.loop-order.order-index c.order-item.result c.loop-order-test.true c.order-item.is (λ own. w.if-account.false (c.account.ensures.value ∙ own)) c.loop-order.book.orders c.loop-order.invariant
]
