use Rattle.serde_json.specs.View.{view}
use Rattle.order_text.proofs.AskedFor.{no_credit}
use Rattle.order_text.proofs.asking.credit.Goals as goal

pub returns-in_err-account : goal.returns-in_err-account
returns-in_err-account c =
    rw c.from_residual.ensures (no_credit c.args.tickers.now (view c.args.value.now) c.in_default.ensures.none c.in_err-account.ensures.none)
