use Rattle.std.proofs.Common.{◌≡◌, ◌++◌}
use Rattle.answer_text.specs.Texts.{listed}
use Rattle.answer_text.specs.Answers.{fill_item}
use Rattle.answer_text.proofs.fills.put_items.Given as goal

abbrev pub invariant-loop-place : goal.invariant-loop-place
invariant-loop-place l = (l.out.before ≡ l.fn.out.before) × (l.out.text ≡ l.fn.out.text ++ listed (fill_item l.fills) l.place)
