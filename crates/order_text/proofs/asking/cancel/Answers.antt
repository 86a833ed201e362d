use Rattle.serde_json.specs.View.{view}
use Rattle.order_text.proofs.AskedFor.{no_cancel}
use Rattle.order_text.proofs.asking.cancel.Goals as goal

pub returns-in_err-account : goal.returns-in_err-account
returns-in_err-account c = λ tickers. rw c.from_residual.ensures (no_cancel tickers (view c.args.value.now) (λ account order has more. c.in_err-account.ensures.none account has))

pub returns-in_err-order : goal.returns-in_err-order
returns-in_err-order c = λ tickers. rw c.from_residual-in_err-order.ensures (no_cancel tickers (view c.args.value.now) (λ account order has more. c.in_err-order.ensures.none order more))
