use Rattle.serde_json.specs.View.{view}
use Rattle.order_text.proofs.AskedFor.{no_batch}
use Rattle.order_text.proofs.asking.run_batch.Goals as goal

pub returns-in_err-budget : goal.returns-in_err-budget
returns-in_err-budget c = λ tickers. rw c.from_residual.ensures (no_batch tickers (view c.args.value.now) c.in_err-budget.ensures.none)
