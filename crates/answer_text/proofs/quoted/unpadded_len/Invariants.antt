use Rattle.std.proofs.Common.{◌≡◌, ◌≤◌, take}
use Rattle.answer_text.specs.Texts.{unpadded}
use Rattle.answer_text.proofs.quoted.unpadded_len.Given as goal

abbrev pub invariant-loop-place : goal.invariant-loop-place
invariant-loop-place l = (l.count ≤ l.place) × (take l.count l.ticker ≡ unpadded (take l.place l.ticker))
