use Rattle.std.proofs.Common.{sym, ◌∙◌}
use Rattle.std.proofs.lemmas.Bool.{false≢true}
use Rattle.serde_json.specs.View.{view}
use Rattle.order_text.proofs.ByWord.{credit_asked, no_credit_asked}
use Rattle.order_text.proofs.asking.credit_in.Goals as goal

pub returns-then-not-has_credit : goal.returns-then-not-has_credit
returns-then-not-has_credit c =
    no_credit_asked c.args.tickers.now (view c.args.value.now) c.args.version
    (λ has. false≢true (sym c.if-not-has_credit.true ∙ c.has_credit.ensures.1 has)) c.requires

pub returns : goal.returns
returns c =
    rw c.found.ensures (credit_asked c.args.tickers.now (view c.args.value.now) c.args.version c.credit.result (c.has_credit.ensures.0 c.if-not-has_credit.false) c.requires c.credit.ensures)
