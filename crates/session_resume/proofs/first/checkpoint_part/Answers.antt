use Rattle.std.proofs.Common.{length, take, sym, arith}
use Rattle.std.proofs.lemmas.List.{take-append-drop, length-take}
use Rattle.session_resume.proofs.first.checkpoint_part.Goals as goal

pub returns-in-Ok-clause-first : goal.returns-in-Ok-clause-first
returns-in-Ok-clause-first c = record {
  checkpoint = take c.in-Ok.place c.args.bytes.now;
  is_one = c.in-Ok.ensures.0;
  whole = sym (take-append-drop c.in-Ok.place c.args.bytes.now);
  ends = omega (arith, length-take c.in-Ok.place c.args.bytes.now, c.in-Ok.ensures.1);
}

pub returns-in-Ok-clause-numbers : goal.returns-in-Ok-clause-numbers
returns-in-Ok-clause-numbers c = c.in-Ok.ensures.0.next

pub returns-in-Err-NotSound-clause-fault : goal.returns-in-Err-NotSound-clause-fault
returns-in-Err-NotSound-clause-fault c = (c.requires.begins, rw c.in-Err-NotSound.field-0-is at c.in-Err-NotSound.ensures)
