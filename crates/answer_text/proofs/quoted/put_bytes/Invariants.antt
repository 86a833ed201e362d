use Rattle.std.proofs.Common.{◌≡◌, ◌++◌, take}
use Rattle.std.specs.List.{flat_map}
use Rattle.answer_text.specs.Texts.{escaped}
use Rattle.answer_text.proofs.quoted.put_bytes.Given as goal

abbrev pub invariant-loop-place : goal.invariant-loop-place
invariant-loop-place l = (l.out.before ≡ l.fn.out.before) × (l.out.text ≡ l.fn.out.text ++ flat_map escaped (take l.place l.text))
