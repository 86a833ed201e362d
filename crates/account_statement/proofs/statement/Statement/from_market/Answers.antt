use Rattle.std.proofs.Common.{length, inr, sym, ap, ◌∙◌}
use mir.Syntax.{w128}
use Rattle.std.proofs.lemmas.Int.{to_z-of_z}
use Rattle.account_statement.proofs.Carrying.{orders_owner, all_own, on_err, held_from}
use Rattle.account_statement.proofs.statement.Statement.from_market.Goals as goal

pub returns-in_err-book-clause-wanted : goal.returns-in_err-book-clause-wanted
returns-in_err-book-clause-wanted c = on_err c.from_residual-in_err-book.result (inr (orders_owner c.args.account c.args.market.now c.orders.ensures.consistent (rw c.orders.ensures.value at c.in_err-book.ensures.some)))

pub invariant_of-result : goal.invariant_of-result
invariant_of-result c = record {
  one_each = (rw c.accounts.ensures.value at c.in_ok-units.ensures.count) ∙ sym c.orders.ensures.consistent.one_each.tickers ∙ ap length (sym c.tickers.ensures.value ∙ sym c.in_ok-tickers.ensures.same);
  own = all_own c.args.account c.args.market.now.orders c.in_ok-book.book.orders (rw c.orders.ensures.value at c.in_ok-book.ensures.own);
}

pub returns-clause-agrees : goal.returns-clause-agrees
returns-clause-agrees c =
    let there = rw c.accounts-2.ensures.value at c.has_account-is_open.ensures in
    rw (to_z-of_z w128 _ (record { sfits = c.money_in-money.type_inv }))
    (held_from c.args.account c.args.market.now c.in_ok-tickers.tickers c.has_account-is_open.result c.money_in-money.result c.in_ok-units.units.items c.in_ok-book.book.orders (c.in_ok-tickers.ensures.same ∙ c.tickers.ensures.value) there.0 there.1
    (rw c.accounts-3.ensures.value at c.money_in-money.ensures) (rw c.accounts.ensures.value at c.in_ok-units.ensures.each) (rw c.orders.ensures.value at c.in_ok-book.ensures.own))
