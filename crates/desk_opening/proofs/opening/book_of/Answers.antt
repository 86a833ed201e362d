use Rattle.std.proofs.Common.{List, ℕ, sym, subst, ◌∙◌}
use Rattle.std.proofs.lemmas.Bool.{false≢true}
use Rattle.desk_opening.specs.declared.opening.File.{File}
use Rattle.desk_opening.specs.Beginnings.{IsBeginning}
use Rattle.desk_opening.specs.Private.{IsFile}
use Rattle.desk_opening.proofs.FirstBooks.{kept_book, begins_otherwise, new_book, was_making}
use Rattle.desk_opening.proofs.opening.book_of.Goals as goal

pub returns-in-Ok-true-clause-made : goal.returns-in-Ok-true-clause-made
returns-in-Ok-true-clause-made g c = λ begin is.
    let found = subst (λ (f : File). IsFile f (g.D.Disk.state c.args.disk.now)) c.in-Kept.is c.requires.file in
    kept_book c.in-Kept.version c.in-Kept.journal (g.D.Disk.state c.args.disk.now) (g.D.Disk.state c.begins_so.new.disk) found.2 c.in-Ok-true.ensures.looks c.in-Ok-true.field-0 begin c.args.beginning.now.market c.args.beginning.now.stored.items is c.in-Ok-true.ensures.tells
    c.in-Ok-true.field-0-test c.begins_so.new.ahead c.in-Ok-true.ensures.piece found.1

pub returns-in-Ok-false-clause-fails : goal.returns-in-Ok-false-clause-fails
returns-in-Ok-false-clause-fails g c = λ begin is.
    let found = subst (λ (f : File). IsFile f (g.D.Disk.state c.args.disk.now)) c.in-Kept.is c.requires.file in (
      c.in-Ok-false.ensures.looks,
      begins_otherwise c.in-Kept.version c.in-Kept.journal (g.D.Disk.state c.args.disk.now) (g.D.Disk.state c.begins_so.new.disk) found.2 c.in-Ok-false.ensures.looks c.in-Ok-false.field-0 begin c.args.beginning.now.market c.args.beginning.now.stored.items is
          c.in-Ok-false.ensures.tells (λ yes_same. false≢true (sym c.in-Ok-false.field-0-test ∙ yes_same)),
    )

pub returns-in-Ok-clause-made : goal.returns-in-Ok-clause-made
returns-in-Ok-clause-made g c = λ begin is.
    let found = subst (λ (f : File). IsFile f (g.D.Disk.state c.args.disk.now)) c.in-New.is c.requires.file in
    new_book (g.D.Disk.state c.args.disk.now) (g.D.Disk.state c.make_disk.new.disk) c.version.result begin c.args.beginning.now.market c.deref.result.now (subst (λ (l : List ℕ). IsBeginning begin c.args.beginning.now.market l) (sym c.deref.ensures.value) is) c.version.ensures.value found.1
    c.make_disk.ensures.moments c.make_disk.ensures.lengths c.make_disk.new.appender c.in-Ok.ensures.keeps c.in-Ok.ensures.told c.in-Ok.ensures.place.1

pub returns-in-Err-make_disk-clause-fails : goal.returns-in-Err-make_disk-clause-fails
returns-in-Err-make_disk-clause-fails g c = λ begin is.
    let found = subst (λ (f : File). IsFile f (g.D.Disk.state c.args.disk.now)) c.in-New.is c.requires.file in
    was_making (g.D.Disk.state c.args.disk.now) (g.D.Disk.state c.make_disk.new.disk) c.version.result begin c.args.beginning.now.market c.deref.result.now (subst (λ (l : List ℕ). IsBeginning begin c.args.beginning.now.market l) (sym c.deref.ensures.value) is) c.version.ensures.value found.1
    c.make_disk.ensures.moments c.make_disk.ensures.lengths
