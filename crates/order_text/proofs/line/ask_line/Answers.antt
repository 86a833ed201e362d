use Rattle.std.proofs.Common.{sym, ◌∙◌}
use Rattle.std.proofs.lemmas.Bool.{false≢true}
use Rattle.serde_json.specs.View.{view}
use Rattle.order_text.proofs.Ladders.{line_asked, line_is_short}
use Rattle.order_text.proofs.line.ask_line.Goals as goal

pub returns-clause-asked : goal.returns-clause-asked
returns-clause-asked c =
    let value = c.in_ok-value.ensures.value in
    line_asked c.args.version c.args.tickers.now c.args.line.now (view c.in_ok-value.value) c.asked_by.result
    (λ blank. false≢true (sym c.if-is_blank.false ∙ c.is_blank.ensures.1 blank)) value.0 value.1 c.asked_by.ensures

pub returns-clause-short : goal.returns-clause-short
returns-clause-short c = line_is_short c.args.version c.args.tickers.now (view c.in_ok-value.value) c.asked_by.result c.asked_by.ensures
