use Rattle.std.proofs.Common.{⊎_elim, ℕ, List, ap, sym, subst, refl, arith}
use Rattle.market_rules.specs.Market.{Market}
use Rattle.journal_disk.proofs.GoingOn.{looks_none}
use Rattle.journal_keeping.specs.Beginning.{TakesStart}
use Rattle.journal_keeping.specs.declared.fault.OpenFault.TheVariants.{Memory}
use Rattle.journal_keeping.proofs.Starting.{fails_looked, fails_new, fails_make, stored_small, new_begun}
use Rattle.journal_keeping.proofs.Counts.{went_on}
use Rattle.journal_keeping.proofs.Making.{each_some}
use Rattle.journal_keeping.proofs.opening.begin_new.Goals as goal

pub returns-in-Err-clause-fails : goal.returns-in-Err-clause-fails
returns-in-Err-clause-fails g c =
    fails_looked g.I.Input.format c.args.limit (g.D.Disk.state c.args.disk.now) (g.D.Disk.state c.args.disk.now) (g.S.Source.rest c.args.source.now) Memory (looks_none (g.D.Disk.state c.args.disk.now) (g.met.D.Disk.is_disk c.args.disk.now)) (each_some (g.D.Disk.state c.args.disk.now).content _ (λ (held : List ℕ). tt))

pub returns-in-Err-open_first-clause-fails : goal.returns-in-Err-open_first-clause-fails
returns-in-Err-open_first-clause-fails g c =
    fails_new g.I.Input.format c.args.limit (g.D.Disk.state c.args.disk.now) (g.S.Source.rest c.args.source.now) (g.S.Source.rest c.open_first.new.source) c.in-Err-open_first.fault (g.met.D.Disk.is_disk c.args.disk.now) c.requires.found c.in-Err-open_first.ensures.fails (c.in-Err-open_first.ensures.taken refl)

pub make_disk-requires-clause-short : goal.make_disk-requires-clause-short
make_disk-requires-clause-short g c =
    let takes = (subst (λ (l : List ℕ). TakesStart g.I.Input.format c.args.limit c.in-Ok-open_first.opened.market l (g.I.Input.window c.in-Ok-open_first.opened.input) (g.S.Source.rest c.args.source.now) (g.S.Source.rest c.open_first.new.source)) (sym c.deref.ensures.value) c.in-Ok-open_first.ensures.opens) in
    stored_small g.I.Input.format c.args.limit c.in-Ok-open_first.opened.market c.deref.result.now (g.I.Input.window c.in-Ok-open_first.opened.input) (g.S.Source.rest c.args.source.now) (g.S.Source.rest c.open_first.new.source) takes

pub returns-in-Ok-make_disk-clause-begun : goal.returns-in-Ok-make_disk-clause-begun
returns-in-Ok-make_disk-clause-begun g c =
    let takes = (subst (λ (l : List ℕ). TakesStart g.I.Input.format c.args.limit c.in-Ok-open_first.opened.market l (g.I.Input.window c.in-Ok-open_first.opened.input) (g.S.Source.rest c.args.source.now) (g.S.Source.rest c.open_first.new.source)) (sym c.deref.ensures.value) c.in-Ok-open_first.ensures.opens) in
    let small = stored_small g.I.Input.format c.args.limit c.in-Ok-open_first.opened.market c.deref.result.now (g.I.Input.window c.in-Ok-open_first.opened.input) (g.S.Source.rest c.args.source.now) (g.S.Source.rest c.open_first.new.source) takes in
    let place = c.in-Ok-make_disk.ensures.place in
    let numbers = c.in-Ok-open_first.ensures.numbers in
    let next = ap (λ (m : Market). m.next_order) c.over.ensures in
    new_begun g.I.Input.format c.args.limit c.in-Ok-open_first.opened.market c.deref.result.now (g.I.Input.window c.in-Ok-open_first.opened.input) (g.S.Source.rest c.args.source.now) (g.S.Source.rest c.open_first.new.source) takes (g.D.Disk.state c.args.disk.now) (g.D.Disk.state c.make_disk.new.disk) c.version.result c.version.ensures.value c.requires.found c.make_disk.ensures.moments c.make_disk.ensures.lengths c.over.result c.make_disk.new.appender c.over.ensures c.in-Ok-make_disk.ensures.keeps c.in-Ok-make_disk.ensures.told (omega (arith, next, numbers, place.0)) (omega (arith, place.1, small))

pub returns-in-Ok-make_disk-clause-disk_cause : goal.returns-in-Ok-make_disk-clause-disk_cause
returns-in-Ok-make_disk-clause-disk_cause g c =
    went_on _ _ (g.D.Disk.state c.args.disk.now).faults (g.D.Disk.state c.make_disk.new.disk).faults c.in-Ok-make_disk.ensures.cause (λ e. cc e) (λ fails. ⊎_elim (λ e. cc e) (λ e. cc e) fails)

pub returns-in-Err-make_disk-clause-fails : goal.returns-in-Err-make_disk-clause-fails
returns-in-Err-make_disk-clause-fails g c =
    let takes = (subst (λ (l : List ℕ). TakesStart g.I.Input.format c.args.limit c.in-Ok-open_first.opened.market l (g.I.Input.window c.in-Ok-open_first.opened.input) (g.S.Source.rest c.args.source.now) (g.S.Source.rest c.open_first.new.source)) (sym c.deref.ensures.value) c.in-Ok-open_first.ensures.opens) in
    fails_make g.I.Input.format c.args.limit c.in-Ok-open_first.opened.market c.deref.result.now (g.I.Input.window c.in-Ok-open_first.opened.input) (g.S.Source.rest c.args.source.now) (g.S.Source.rest c.open_first.new.source) takes (g.D.Disk.state c.args.disk.now) (g.D.Disk.state c.make_disk.new.disk) c.version.result c.version.ensures.value c.requires.found c.make_disk.ensures.moments c.make_disk.ensures.lengths
