use Rattle.std.proofs.Common.{◌≡◌, ℕ, List, Option, IfSome, Ok, sym, subst, ◌∙◌, arith}
use Rattle.journal_disk.specs.Entries.{EndsAt, Keeps}
use Rattle.journal_disk.specs.Stepping.{IsClosedAt, Finds}
use Rattle.journal_disk.proofs.Lengths.{reach_more, reach_looks}
use Rattle.desk_opening.specs.declared.book.Book.{Book}
use Rattle.desk_opening.specs.declared.book.Book.TheVariants.{Open}
use Rattle.desk_opening.specs.Books.{IsFoundBy, IsNotFoundBy}
use Rattle.std.proofs.Common as common
use Rattle.desk_opening.proofs.Finding.{ended, not_ended}
use Rattle.desk_opening.proofs.book.Book.find.Goals as goal

pub returns-in-Err-begin-clause-fails : goal.returns-in-Err-begin-clause-fails
returns-in-Err-begin-clause-fails g c =
    let disk = g.D.Disk.state c.args.disk.now in
    let mid = g.D.Disk.state c.find.new.disk in
    let now = g.D.Disk.state c.begin.new.disk in
    let place = c.in-Kept.journal in
    let closed : IfSome disk.content (IsClosedAt place) = subst (λ (o : Option ℕ). IfSome disk.content (Finds (Ok o) place)) c.in-Ok-None.field-0-is c.in-Ok-None.ensures.found in
    subst (λ (b : Book). IsNotFoundBy b disk now c.in-Err-begin.fault) (sym c.in-Kept.is)
    (not_ended place disk mid c.in-Ok-None.ensures.looks closed now (λ head pairs at. c.begin.ensures.moments head pairs (subst (λ (n : ℕ). EndsAt head pairs n mid) (sym c.replace.ensures.value) at)) c.in-Err-begin.fault c.in-Err-begin.ensures.refused)

pub returns-in-Err-begin-clause-lengths : goal.returns-in-Err-begin-clause-lengths
returns-in-Err-begin-clause-lengths g c =
    reach_more 0 (g.D.Disk.state c.args.disk.now) (g.D.Disk.state c.find.new.disk) (g.D.Disk.state c.begin.new.disk) (g.met.D.Disk.is_disk c.find.new.disk) (reach_looks 0 (g.D.Disk.state c.args.disk.now) (g.D.Disk.state c.find.new.disk) c.in-Ok-None.ensures.looks) c.begin.ensures.lengths

pub returns-clause-found : goal.returns-clause-found
returns-clause-found g c =
    let disk = g.D.Disk.state c.args.disk.now in
    let mid = g.D.Disk.state c.find.new.disk in
    let now = g.D.Disk.state c.begin.new.disk in
    let place = c.in-Kept.journal in
    let same : c.in-Ok.appender ≡ place = c.in-Ok.ensures.place.0 ∙ c.replace.ensures.value in
    let closed : IfSome disk.content (IsClosedAt place) = subst (λ (o : Option ℕ). IfSome disk.content (Finds (Ok o) place)) c.in-Ok-None.field-0-is c.in-Ok-None.ensures.found in
    subst (λ (b : Book). IsFoundBy b (Open c.in-Ok.appender) disk now common.None) (sym c.in-Kept.is) (
      same,
      ended place disk mid c.in-Ok-None.ensures.looks closed now (λ head pairs at. c.begin.ensures.moments head pairs (subst (λ (n : ℕ). EndsAt head pairs n mid) (sym c.replace.ensures.value) at))
          (λ head pairs at. subst (λ (n : ℕ). Keeps head pairs n now) same (c.in-Ok.ensures.keeps head pairs (subst (λ (n : ℕ). EndsAt head pairs n mid) (sym c.replace.ensures.value) at)))
          c.in-Ok.ensures.told.0
          (omega (arith, c.in-Ok.ensures.place.1, same)),
    )

pub returns-clause-lengths : goal.returns-clause-lengths
returns-clause-lengths g c =
    reach_more 0 (g.D.Disk.state c.args.disk.now) (g.D.Disk.state c.find.new.disk) (g.D.Disk.state c.begin.new.disk) (g.met.D.Disk.is_disk c.find.new.disk) (reach_looks 0 (g.D.Disk.state c.args.disk.now) (g.D.Disk.state c.find.new.disk) c.in-Ok-None.ensures.looks) c.begin.ensures.lengths
