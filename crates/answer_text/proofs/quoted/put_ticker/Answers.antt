use Rattle.std.proofs.Common.{◌++◌, ap, ◌∙◌}
use Rattle.pair_text.proofs.Joining.{on_ok}
use Rattle.answer_text.proofs.Padding.{no_ticker}
use Rattle.answer_text.proofs.quoted.put_ticker.Goals as goal

pub returns-in-None-clause-put : goal.returns-in-None-clause-put
returns-in-None-clause-put c = on_ok c.put.result (λ is. is ∙ ap (λ t. c.args.out.now.text ++ t) (no_ticker c.args.tickers.now c.args.asset c.in-None.ensures.value)) c.put.ensures.put
