use Rattle.std.proofs.Common.{◌≡◌, ◌++◌, ◌∷◌, [], length, sym, ap, ◌∙◌, arith, length-append}
use Rattle.pair_text.proofs.Joining.{joined}
use Rattle.answer_text.specs.Texts.{comma}
use Rattle.answer_text.specs.Accounts.{order_text}
use Rattle.answer_text.proofs.Separating.{separated_more, one_more_own, few_own}
use Rattle.answer_text.proofs.accounts.put_orders.Goals as goal

pub overflow_add-count : goal.overflow_add-count
overflow_add-count c =
    let (done, split, counted, put) = c.loop-order.invariant.put in
    let few = few_own c.args.account c.args.book.now.orders c.loop-order.order-iterator c.next.new.self c.in-Some.order.now done split c.in-Some.ensures.steps (sym c.account.ensures.value ∙ c.if-account.true) in
    omega (arith, few c.live-order-items.ensures.live.few, counted)

pub loop-order-preserved-then-account : goal.loop-order-preserved-then-account
loop-order-preserved-then-account c =
    let (done, split, counted, put) = c.loop-order.invariant.put in
    let order = c.in-Some.order.now in
    let text = order_text c.args.tickers.now in
    let comma_is : c.put_comma.new.out.text ≡ c.loop-order.out.text ++ comma (length done) = rw (sym counted) at c.in_ok-put_comma.ensures.put in
    let written = joined c.args.out.now.text _ _ _ _ put (joined c.loop-order.out.text _ _ _ _ comma_is c.in_ok-put_order.ensures.put) in
    record {
      before = c.in_ok-put_order.ensures.before ∙ c.in_ok-put_comma.ensures.before ∙ c.loop-order.invariant.before;
      put = (
        done ++ order ∷ [],
        one_more_own c.args.account c.args.book.now.orders c.loop-order.order-iterator c.next.new.self order done split c.in-Some.ensures.steps (sym c.account.ensures.value ∙ c.if-account.true),
        omega (arith, counted, length-append done (order ∷ [])),
        written ∙ ap (λ xs. c.args.out.now.text ++ xs) (sym (separated_more text done order)),
      );
    }
