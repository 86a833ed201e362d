use Rattle.std.proofs.lemmas.Result.{err_from_is_err_and}
use Rattle.serde_json.specs.View.{view}
use Rattle.order_text.proofs.Ladders.{asks_ladder, ladder_refused}
use Rattle.order_text.proofs.asking.ladder_in.Goals as goal

pub returns-in_err-ladder : goal.returns-in_err-ladder
returns-in_err-ladder c =
    let p = err_from_is_err_and c.from_residual.result c.from_residual.ensures.1 in
    λ version. rw (p.1, p.2) (ladder_refused c.args.tickers.now (view c.args.value.now) version c.requires c.in_err-ladder.field-0.0 c.in_err-ladder.ensures)

pub returns : goal.returns
returns c =
    λ version. (asks_ladder c.args.tickers.now (view c.args.value.now) c.in_ok-ladder.field-0 c.requires c.in_ok-ladder.ensures, c.in_ok-ladder.ensures.1)
