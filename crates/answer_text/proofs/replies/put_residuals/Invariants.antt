use Rattle.std.proofs.Common.{◌≡◌, ◌++◌}
use Rattle.answer_text.specs.Texts.{listed}
use Rattle.answer_text.specs.Answers.{residual_member}
use Rattle.answer_text.proofs.replies.put_residuals.Given as goal

abbrev pub invariant-loop-asset : goal.invariant-loop-asset
invariant-loop-asset l = (l.out.before ≡ l.fn.out.before) × (l.out.text ≡ l.fn.out.text ++ listed (residual_member l.tickers l.view.clearing) l.asset)
