use Rattle.std.proofs.Common.{Err, ap}
use Rattle.std.proofs.lemmas.Result.{err_from_is_err_and}
use Rattle.serde_json.specs.View.{view}
use Rattle.order_text.proofs.AskedFor.{no_request, until_failed}
use Rattle.order_text.proofs.asking.place_until.Goals as goal

pub returns-in_default-limits_of : goal.returns-in_default-limits_of
returns-in_default-limits_of c = λ last request at fields keys. no_request c.args.tickers.now (view c.args.value.now) c.in_default-limits_of.ensures.none request fields

pub returns-in_err-row : goal.returns-in_err-row
returns-in_err-row c =
    let p = err_from_is_err_and c.from_residual.result c.from_residual.ensures.1 in
    rw (p.1, p.2) (until_failed c.args.tickers.now (view c.args.value.now) c.in_err-row.field-0.0 (λ bad. c.in_err-row.ensures.none (ap Err bad)))

pub returns-in_default : goal.returns-in_default
returns-in_default c = λ last request at fields keys. c.in_default.ensures.none last at
