use Rattle.std.proofs.Common.{inr, ℕ, List, Option, IfSome, Err, sym, ap, subst, ◌∙◌}
use Rattle.journal_disk.specs.Ahead.{IsPiece}
use Rattle.journal_disk.specs.Stepping.{HasEntryAt, StatesAt, IsDamagedAt}
use Rattle.journal_keeping.specs.declared.fault.OpenFault.TheVariants.{Damaged}
use Rattle.journal_keeping.specs.Faults.{of_disk}
use Rattle.desk_opening.proofs.FirstFiles.{states_first, found_first, whole_first, damaged_first, not_found, SeesNoFirst}
use Rattle.desk_opening.proofs.opening.see_first.Goals as goal

pub returns-in-Ok-clause-whole : goal.returns-in-Ok-clause-whole
returns-in-Ok-clause-whole g c = λ eight.
    let content = (g.D.Disk.state c.args.disk.now).content in
    let piece : IfSome content (IsPiece c.find.new.ahead) = subst (λ (o : Option (List ℕ)). IfSome o (IsPiece c.find.new.ahead)) c.in-Ok-Some.ensures.looks.content c.in-Ok-Some.ensures.piece in
    whole_first content c.find.new.ahead c.in-Ok-Some.count c.in-Ok.field-0 piece (states_first content c.after_magic-first.result c.in-Ok-Some.count c.in-Ok-Some.field-0 c.after_magic-first.ensures c.in-Ok-Some.field-0-is c.in-Ok-Some.ensures.found)
    (subst (λ (n : ℕ). (bytes : List ℕ) → IsPiece c.find.new.ahead bytes → StatesAt n c.in-Ok-Some.count bytes → (rest : List ℕ) × HasEntryAt n c.in-Ok.field-0 rest bytes) c.after_magic-first.ensures c.in-Ok.ensures.taken)

pub returns-in-Err-take-clause-refused : goal.returns-in-Err-take-clause-refused
returns-in-Err-take-clause-refused g c =
    let content = (g.D.Disk.state c.args.disk.now).content in
    let piece : IfSome content (IsPiece c.find.new.ahead) = subst (λ (o : Option (List ℕ)). IfSome o (IsPiece c.find.new.ahead)) c.in-Ok-Some.ensures.looks.content c.in-Ok-Some.ensures.piece in
    let damaged = damaged_first content c.find.new.ahead c.in-Ok-Some.count piece (states_first content c.after_magic-first.result c.in-Ok-Some.count c.in-Ok-Some.field-0 c.after_magic-first.ensures c.in-Ok-Some.field-0-is c.in-Ok-Some.ensures.found)
    (subst (λ (n : ℕ). (bytes : List ℕ) → IsPiece c.find.new.ahead bytes → StatesAt n c.in-Ok-Some.count bytes → IsDamagedAt n bytes) c.after_magic-first.ensures c.in-Err-take.ensures.damaged.1)
    in
    inr (inr (c.from.ensures ∙ ap of_disk c.in-Err-take.ensures.damaged.0 ∙ ap (λ (n : ℕ). Damaged n) c.after_magic-first.ensures, c.is_first.ensures.0 c.if-not-is_first.false, damaged))

pub returns-in-Err-clause-refused : goal.returns-in-Err-clause-refused
returns-in-Err-clause-refused g c =
    let content = (g.D.Disk.state c.args.disk.now).content in
    subst (SeesNoFirst c.args.journal.now content) (sym c.from-in-Err.ensures) (not_found c.args.journal.now content c.in-Err.fault (c.is_first.ensures.0 c.if-not-is_first.false) (found_first content c.after_magic-first.result (Err c.in-Err.fault) c.after_magic-first.ensures c.in-Err.ensures.found) (λ at is. c.in-Err.ensures.commit at (ap Err is) ∙ c.after_magic-first.ensures) (λ is. c.in-Err.ensures.known (ap Err is)))
