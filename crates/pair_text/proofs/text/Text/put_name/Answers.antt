use Rattle.std.proofs.Common.{◌++◌, ap, sym, ◌∙◌}
use Rattle.std.proofs.lemmas.List.{append-nil}
use Rattle.pair_text.proofs.Passed.{no_name}
use Rattle.pair_text.proofs.text.Text.put_name.Goals as goal

pub returns-in-None-clause-put : goal.returns-in-None-clause-put
returns-in-None-clause-put c =
    c.in_ok-put.ensures.put
    ∙ ap (λ x. c.args.self.now.text ++ x) (sym (append-nil c.args.word.now) ∙ ap (λ x. c.args.word.now ++ x) (sym (no_name c.args.tickers.now c.args.asset (sym c.in-None.is ∙ c.ticker.ensures.value))))
