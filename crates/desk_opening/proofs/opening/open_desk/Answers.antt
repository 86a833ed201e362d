use Rattle.std.proofs.Common.{inl, inr, ℕ, ◌+◌, refl, ap, subst}
use Rattle.flow_io.specs.Windows.{WindowState}
use Rattle.journal_keeping.proofs.Counts.{went_on, later_call}
use Rattle.journal_keeping.proofs.Magic.{none_taken}
use Rattle.journal_keeping.specs.declared.fault.OpenFault.TheVariants.{Memory}
use Rattle.desk_opening.specs.Beginnings.{HasBegun, NotBegun}
use Rattle.desk_opening.proofs.FirstBooks.{stored_short}
use Rattle.desk_opening.proofs.FirstFiles.{refused_anyhow, refused_never}
use Rattle.desk_opening.proofs.BothBegun.{both_begun, takes_so, not_both, unbegun_few, begun_few, read_none, read_well, same_blame}
use Rattle.desk_opening.proofs.opening.open_desk.Goals as goal

pub returns-in-Err-read_beginning-clause-fails : goal.returns-in-Err-read_beginning-clause-fails
returns-in-Err-read_beginning-clause-fails g c = (
  subst (λ (n : ℕ). NotBegun n (g.S.Source.rest c.args.source.now) (g.S.Source.rest c.read_beginning.new.source) c.in-Err-read_beginning.fault) (ap (λ (w : WindowState). w.limit) c.in-Ok-new.ensures) c.in-Err-read_beginning.ensures.fails,
  c.in-Ok.ensures.looks,
)

pub book_of-requires-clause-short : goal.book_of-requires-clause-short
book_of-requires-clause-short g c =
    let begun = c.in-Ok-read_beginning.ensures.begun c.args.most (ap (λ (w : WindowState). w.room) c.in-Ok-new.ensures) in
    stored_short begun.begin c.in-Ok-read_beginning.beginning.market c.in-Ok-read_beginning.beginning.stored.items begun.is_one

pub returns-in-Ok-book_of-clause-begun : goal.returns-in-Ok-book_of-clause-begun
returns-in-Ok-book_of-clause-begun g c =
    let begun = c.in-Ok-read_beginning.ensures.begun c.args.most (ap (λ (w : WindowState). w.room) c.in-Ok-new.ensures) in
    both_begun (g.D.Disk.state c.args.disk.now) (g.D.Disk.state c.open_file.new.disk) (g.D.Disk.state c.book_of.new.disk) c.in-Ok.ensures.looks (g.met.D.Disk.is_disk c.open_file.new.disk) c.args.most c.args.limit c.in-Ok-read_beginning.beginning.market c.in-Ok-read_beginning.beginning.stored.items
    c.read_beginning.new.window (g.S.Source.rest c.args.source.now) (g.S.Source.rest c.read_beginning.new.source)
    (subst (λ (n : ℕ). HasBegun c.args.most n c.in-Ok-read_beginning.beginning.market c.in-Ok-read_beginning.beginning.stored.items c.read_beginning.new.window (g.S.Source.rest c.args.source.now) (g.S.Source.rest c.read_beginning.new.source)) (ap (λ (w : WindowState). w.limit) c.in-Ok-new.ensures) begun)
    c.in-Ok-book_of.book c.in-Ok-book_of.ensures.made

pub returns-in-Err-book_of-clause-fails : goal.returns-in-Err-book_of-clause-fails
returns-in-Err-book_of-clause-fails g c =
    let begun = c.in-Ok-read_beginning.ensures.begun c.args.most (ap (λ (w : WindowState). w.room) c.in-Ok-new.ensures) in
    not_both (g.D.Disk.state c.args.disk.now) (g.D.Disk.state c.open_file.new.disk) (g.D.Disk.state c.book_of.new.disk) c.in-Ok.ensures.looks (g.met.D.Disk.is_disk c.open_file.new.disk) c.args.most c.args.limit c.in-Ok-read_beginning.beginning.market c.in-Ok-read_beginning.beginning.stored.items
    c.read_beginning.new.window (g.S.Source.rest c.args.source.now) (g.S.Source.rest c.read_beginning.new.source)
    (subst (λ (n : ℕ). HasBegun c.args.most n c.in-Ok-read_beginning.beginning.market c.in-Ok-read_beginning.beginning.stored.items c.read_beginning.new.window (g.S.Source.rest c.args.source.now) (g.S.Source.rest c.read_beginning.new.source)) (ap (λ (w : WindowState). w.limit) c.in-Ok-new.ensures) begun)
    c.in-Err-book_of.fault c.in-Err-book_of.ensures.fails

pub returns-in-Err-book_of-clause-unread : goal.returns-in-Err-book_of-clause-unread
returns-in-Err-book_of-clause-unread g c =
    let begun = c.in-Ok-read_beginning.ensures.begun c.args.most (ap (λ (w : WindowState). w.room) c.in-Ok-new.ensures) in
    read_none begun.begin (g.D.Disk.state c.open_file.new.disk) (g.D.Disk.state c.book_of.new.disk) c.in-Err-book_of.fault _ (c.in-Err-book_of.ensures.fails begun.begin begun.is_one)

pub returns-in-Err-book_of-clause-disk_cause : goal.returns-in-Err-book_of-clause-disk_cause
returns-in-Err-book_of-clause-disk_cause g c =
    later_call _ _ (g.D.Disk.state c.args.disk.now).faults (g.D.Disk.state c.open_file.new.disk).faults (g.D.Disk.state c.book_of.new.disk).faults c.in-Ok.ensures.cause (λ e. cc e)
    (same_blame c.in-Err-book_of.fault (g.D.Disk.state c.open_file.new.disk).faults (g.D.Disk.state c.book_of.new.disk).faults c.in-Err-book_of.ensures.cause)

pub returns-in-Err-book_of-clause-source_cause : goal.returns-in-Err-book_of-clause-source_cause
returns-in-Err-book_of-clause-source_cause g c =
    let begun = c.in-Ok-read_beginning.ensures.begun c.args.most (ap (λ (w : WindowState). w.room) c.in-Ok-new.ensures) in
    went_on _ _ (g.S.Source.faults c.args.source.now) (g.S.Source.faults c.read_beginning.new.source) c.in-Ok-read_beginning.ensures.cause (λ e. cc e)
    (read_well begun.begin (g.D.Disk.state c.open_file.new.disk) (g.D.Disk.state c.book_of.new.disk) c.in-Err-book_of.fault (c.in-Err-book_of.ensures.fails begun.begin begun.is_one))

pub returns-in-Err-clause-taken : goal.returns-in-Err-clause-taken
returns-in-Err-clause-taken g c =
    none_taken (g.S.Source.rest c.args.source.now) (c.args.limit + 1)

pub returns-in-Err-new-clause-taken : goal.returns-in-Err-new-clause-taken
returns-in-Err-new-clause-taken g c =
    none_taken (g.S.Source.rest c.args.source.now) (c.args.limit + 1)

pub returns-in-Err-read_beginning-clause-taken : goal.returns-in-Err-read_beginning-clause-taken
returns-in-Err-read_beginning-clause-taken g c =
    unbegun_few c.args.limit (g.S.Source.rest c.args.source.now) (g.S.Source.rest c.read_beginning.new.source) c.in-Err-read_beginning.fault
    (subst (λ (n : ℕ). NotBegun n (g.S.Source.rest c.args.source.now) (g.S.Source.rest c.read_beginning.new.source) c.in-Err-read_beginning.fault) (ap (λ (w : WindowState). w.limit) c.in-Ok-new.ensures) c.in-Err-read_beginning.ensures.fails)

pub returns-in-Ok-book_of-clause-taken : goal.returns-in-Ok-book_of-clause-taken
returns-in-Ok-book_of-clause-taken g c =
    let begun = c.in-Ok-read_beginning.ensures.begun c.args.most (ap (λ (w : WindowState). w.room) c.in-Ok-new.ensures) in
    begun_few c.args.most c.args.limit c.in-Ok-read_beginning.beginning.market c.in-Ok-read_beginning.beginning.stored.items c.read_beginning.new.window (g.S.Source.rest c.args.source.now) (g.S.Source.rest c.read_beginning.new.source)
    (subst (λ (n : ℕ). HasBegun c.args.most n c.in-Ok-read_beginning.beginning.market c.in-Ok-read_beginning.beginning.stored.items c.read_beginning.new.window (g.S.Source.rest c.args.source.now) (g.S.Source.rest c.read_beginning.new.source)) (ap (λ (w : WindowState). w.limit) c.in-Ok-new.ensures) begun)

pub returns-in-Err-book_of-clause-taken : goal.returns-in-Err-book_of-clause-taken
returns-in-Err-book_of-clause-taken g c =
    let begun = c.in-Ok-read_beginning.ensures.begun c.args.most (ap (λ (w : WindowState). w.room) c.in-Ok-new.ensures) in
    begun_few c.args.most c.args.limit c.in-Ok-read_beginning.beginning.market c.in-Ok-read_beginning.beginning.stored.items c.read_beginning.new.window (g.S.Source.rest c.args.source.now) (g.S.Source.rest c.read_beginning.new.source)
    (subst (λ (n : ℕ). HasBegun c.args.most n c.in-Ok-read_beginning.beginning.market c.in-Ok-read_beginning.beginning.stored.items c.read_beginning.new.window (g.S.Source.rest c.args.source.now) (g.S.Source.rest c.read_beginning.new.source)) (ap (λ (w : WindowState). w.limit) c.in-Ok-new.ensures) begun)

pub returns-in-Err-clause-refuses : goal.returns-in-Err-clause-refuses
returns-in-Err-clause-refuses g c = refused_anyhow (g.D.Disk.state c.args.disk.now).content _ ((c.in-Err.fault, refl), refl)

pub returns-in-Err-new-clause-refuses : goal.returns-in-Err-new-clause-refuses
returns-in-Err-new-clause-refuses g c = refused_anyhow (g.D.Disk.state c.args.disk.now).content _ ((Memory, refl), refl)

pub returns-in-Err-read_beginning-clause-refuses : goal.returns-in-Err-read_beginning-clause-refuses
returns-in-Err-read_beginning-clause-refuses g c = refused_never (g.D.Disk.state c.args.disk.now).content _ c.in-Ok.ensures.sound

pub returns-in-Ok-book_of-clause-refuses : goal.returns-in-Ok-book_of-clause-refuses
returns-in-Ok-book_of-clause-refuses g c = refused_never (g.D.Disk.state c.args.disk.now).content _ c.in-Ok.ensures.sound

pub returns-in-Err-book_of-clause-refuses : goal.returns-in-Err-book_of-clause-refuses
returns-in-Err-book_of-clause-refuses g c = refused_never (g.D.Disk.state c.args.disk.now).content _ c.in-Ok.ensures.sound

pub returns-in-Err-book_of-clause-shown : goal.returns-in-Err-book_of-clause-shown
returns-in-Err-book_of-clause-shown g c =
    let begun = c.in-Ok-read_beginning.ensures.begun c.args.most (ap (λ (w : WindowState). w.room) c.in-Ok-new.ensures) in
    λ is. inr (
      begun.begin,
      takes_so (g.D.Disk.state c.args.disk.now) (g.D.Disk.state c.open_file.new.disk) (g.D.Disk.state c.book_of.new.disk) c.in-Ok.ensures.looks (g.met.D.Disk.is_disk c.open_file.new.disk) c.args.most c.args.limit c.in-Ok-read_beginning.beginning.market c.in-Ok-read_beginning.beginning.stored.items
          c.read_beginning.new.window (g.S.Source.rest c.args.source.now) (g.S.Source.rest c.read_beginning.new.source)
          (subst (λ (n : ℕ). HasBegun c.args.most n c.in-Ok-read_beginning.beginning.market c.in-Ok-read_beginning.beginning.stored.items c.read_beginning.new.window (g.S.Source.rest c.args.source.now) (g.S.Source.rest c.read_beginning.new.source)) (ap (λ (w : WindowState). w.limit) c.in-Ok-new.ensures) begun),
    )

pub returns-in-Err-clause-shown : goal.returns-in-Err-clause-shown
returns-in-Err-clause-shown g c = λ is. inl refl

pub returns-in-Err-new-clause-shown : goal.returns-in-Err-new-clause-shown
returns-in-Err-new-clause-shown g c = λ is. inl refl

pub returns-in-Err-read_beginning-clause-shown : goal.returns-in-Err-read_beginning-clause-shown
returns-in-Err-read_beginning-clause-shown g c = λ is. absurd cc

pub returns-in-Ok-book_of-clause-shown : goal.returns-in-Ok-book_of-clause-shown
returns-in-Ok-book_of-clause-shown g c = λ is. absurd cc
