use Rattle.std.proofs.Common.{sym, subst, map, Result, Ok, Err, OnOk}
use Rattle.journal_records.specs.Formats.{records_of}
use Rattle.journal_keeping.proofs.Turns.{are_record_pairs, keeps_group}
use Rattle.desk_opening.specs.declared.book.Book.{Book}
use Rattle.desk_opening.specs.declared.book.Book.TheVariants.{Open}
use Rattle.desk_opening.specs.Books.{AddsTo, LeavesWithOrWithout}
use Rattle.desk_opening.proofs.book.Book.keep.Goals as goal

-- what holds of an answer if three clauses do
from_all : {T E : Type 0} (r : Result T E) (A B C D : Type 0) → (A → B → C → D) → OnOk r A → OnOk r B → OnOk r C → OnOk r D
from_all (Ok done) A B C D f a b c = f a b c
from_all (Err fault) A B C D f a b c = tt

pub returns-clause-kept : goal.returns-clause-kept
returns-clause-kept g c =
    let disk = g.D.Disk.state c.args.disk.now in
    let now = g.D.Disk.state c.append_group.new.disk in
    let e = c.append_group.ensures in
    from_all c.append_group.result _ _ _ _
    (λ kept told place some.
    subst (λ (b : Book). AddsTo c.args.group.now b (Open c.append_group.new.self) disk now) (sym c.in-Open.is)
    (place, told.0, λ more fits is. keeps_group more c.in-Open.appender c.append_group.new.self disk now c.args.group.now fits is kept e.moments))
    e.kept e.told e.place

pub returns-clause-moments : goal.returns-clause-moments
returns-clause-moments g c = λ some.
    subst (λ (b : Book). LeavesWithOrWithout c.args.group.now b (g.D.Disk.state c.args.disk.now) (g.D.Disk.state c.append_group.new.disk)) (sym c.in-Open.is)
    (c.append_group.ensures.lengths, λ head pairs more at fits is. c.append_group.ensures.moments head pairs (map records_of more) at (are_record_pairs more fits) is)
