use Rattle.std.proofs.Common.{◌≡◌, ◌++◌}
use Rattle.answer_text.specs.Texts.{listed}
use Rattle.answer_text.specs.Answers.{price_member}
use Rattle.answer_text.proofs.questions.put_prices.Given as goal

abbrev pub invariant-loop-asset : goal.invariant-loop-asset
invariant-loop-asset l = (l.out.before ≡ l.fn.out.before) × (l.out.text ≡ l.fn.out.text ++ listed (price_member l.tickers l.prices) l.asset)
