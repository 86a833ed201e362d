use Rattle.serde_json.specs.View.{view}
use Rattle.order_text.proofs.AskedFor.{no_asset}
use Rattle.order_text.proofs.asking.add_asset.Goals as goal

pub returns-in_err-ticker : goal.returns-in_err-ticker
returns-in_err-ticker c = λ tickers. rw c.from_residual.ensures (no_asset tickers (view c.args.value.now) c.in_err-ticker.ensures.none)
