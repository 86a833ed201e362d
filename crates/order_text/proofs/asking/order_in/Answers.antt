use Rattle.std.proofs.lemmas.Result.{err_from_is_err_and}
use Rattle.serde_json.specs.View.{view}
use Rattle.order_text.proofs.ByWord.{placed_asked, place_refused}
use Rattle.order_text.proofs.asking.order_in.Goals as goal

pub returns-in_err-place : goal.returns-in_err-place
returns-in_err-place c =
    let p = err_from_is_err_and c.from_residual.result c.from_residual.ensures.1 in
    rw (p.1, p.2) (place_refused c.args.tickers.now (view c.args.value.now) c.args.version c.in_err-place.field-0.0 c.requires c.in_err-place.ensures)

pub returns : goal.returns
returns c = placed_asked c.args.tickers.now (view c.args.value.now) c.args.version c.in_ok-place.field-0 c.requires c.in_ok-place.ensures
