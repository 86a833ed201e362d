use Rattle.std.proofs.Common.{◌≡◌, ◌++◌}
use Rattle.answer_text.specs.Texts.{listed}
use Rattle.answer_text.specs.Answers.{leg_member}
use Rattle.answer_text.proofs.accounts.put_legs.Given as goal

abbrev pub invariant-loop-place : goal.invariant-loop-place
invariant-loop-place l = (l.out.before ≡ l.fn.out.before) × (l.out.text ≡ l.fn.out.text ++ listed (leg_member l.tickers l.row) l.place)
