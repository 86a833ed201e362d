use Rattle.std.proofs.Common.{Err, ap, sym, ◌∙◌, true≢false}
use Rattle.std.proofs.lemmas.Result.{err_from_is_err_and}
use Rattle.serde_json.specs.View.{view}
use Rattle.order_text.proofs.Ladders.{ladder_failed, lawful_told}
use Rattle.order_text.proofs.ladder.ladder.Goals as goal

pub returns-in_default : goal.returns-in_default
returns-in_default c = λ l account row has keys lawful. c.in_default.ensures.none account has.0

pub returns-in_default-small_at : goal.returns-in_default-small_at
returns-in_default-small_at c = λ l account row has keys lawful. c.in_default-small_at.ensures.none l.turns has.1.1.0

pub returns-then-is_some : goal.returns-then-is_some
returns-then-is_some c = λ l account row has keys lawful.
    let told = lawful_told c.args.tickers.now (view c.args.value.now) l c.in_ok-points.points c.in-Some-small_at.turns has.1.0 has.1.1.0 c.in_ok-points.ensures.points c.in-Some-small_at.ensures.some lawful in
    true≢false (sym (sym c.is_some.ensures ∙ c.if-is_some.true) ∙ c.ladder_fault.ensures.lawful.1 (rw c.as_slice.ensures told))

pub returns-in_err-row : goal.returns-in_err-row
returns-in_err-row c =
    let p = err_from_is_err_and c.from_residual-in_err-row.result c.from_residual-in_err-row.ensures.1 in
    rw (p.1, p.2) (ladder_failed c.args.tickers.now (view c.args.value.now) c.in_err-row.field-0.0 (λ bad. c.in_err-row.ensures.none (ap Err bad)))
