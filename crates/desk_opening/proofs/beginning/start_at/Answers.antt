use Rattle.std.proofs.Common.{◌≡◌, List, ℕ, [], ◌∷◌, ◌++◌, length, drop, sym, ap, subst, ◌∙◌, arith}
use Rattle.std.proofs.lemmas.Bool.{false≢true}
use Rattle.std.proofs.lemmas.Bool.Decides.{Decides-eqb}
use Rattle.std.proofs.lemmas.Slice.Eq.{starts_is}
use Rattle.market_snapshot.specs.Checkpoints.{checkpoint_magic}
use Rattle.market_history.specs.Kept.{FindsNone}
use Rattle.market_history.specs.declared.start.StartFault.{StartFault}
use Rattle.journal_disk.specs.Entries.{framed}
use Rattle.journal_keeping.proofs.Counts.{went_on}
use Rattle.journal_keeping.proofs.ShortCheckpoints.{checkpoint_short}
use Rattle.desk_opening.proofs.FirstBytes.{neither}
use Rattle.desk_opening.proofs.Begun.{begun_line, bad_checkpoint, begun_checkpoint, out_stored}
use Rattle.desk_opening.proofs.beginning.start_at.Goals as goal

pub returns-in-Some-clause-begun : goal.returns-in-Some-clause-begun
returns-in-Some-clause-begun g c = λ before most takes room.
    begun_line c.args.window.now (g.S.Source.rest c.args.source.now) before c.requires.open c.requires.within c.requires.first takes most c.advance.new.self c.in-Some.version c.in-Some.ensures.some.0 c.new_in.result c.new.result.items room
    (sym c.held.ensures.held ∙ c.in-Some.ensures.some.1) c.advance.ensures c.new_in.ensures c.new.ensures.items

pub returns-then-not-starts_with-clause-fails : goal.returns-then-not-starts_with-clause-fails
returns-then-not-starts_with-clause-fails g c = λ before takes.
    let tells = starts_is Decides-eqb c.held-2.result.now checkpoint_magic c.starts_with.result c.starts_with.ensures.value in
    neither c.args.window.now.limit before (g.S.Source.rest c.args.source.now) c.args.window.now.held takes (omega (arith, c.requires.within)) c.requires.some
    (λ has. false≢true (sym c.if-not-starts_with.true ∙ tells.1 has.0 (c.held-2.ensures.held ∙ has.1)))
    (λ version rest is. c.in-None.ensures.none version rest (c.held.ensures.held ∙ is))

pub returns-in-Err-NoCheckpoint-clause-fails : goal.returns-in-Err-NoCheckpoint-clause-fails
returns-in-Err-NoCheckpoint-clause-fails g c = λ before takes.
    let begins = (starts_is Decides-eqb c.args.window.now.held checkpoint_magic c.starts_with.result (rw c.held-2.ensures.held at c.starts_with.ensures.value)).0 c.if-not-starts_with.false in
    bad_checkpoint c.args.window.now (g.S.Source.rest c.args.source.now) before c.requires.open c.requires.within c.requires.first takes (g.S.Source.rest c.kept_checkpoint.new.source) (drop 8 c.args.window.now.held, begins)
    (subst (λ (f : StartFault). FindsNone c.args.window.now (g.S.Source.rest c.args.source.now) (g.S.Source.rest c.kept_checkpoint.new.source) f) c.in-Err-NoCheckpoint.field-0-is c.in-Err-NoCheckpoint.ensures.none)

pub stored_first-requires : goal.stored_first-requires
stored_first-requires g c = omega (arith, ap length c.in-Ok.ensures.bytes, checkpoint_short c.in-Ok.kept.market c.in-Ok.ensures.kept.is_one.consistent)

pub returns-in-Ok-stored_first-clause-begun : goal.returns-in-Ok-stored_first-clause-begun
returns-in-Ok-stored_first-clause-begun g c = λ before most takes room.
    let begins = (starts_is Decides-eqb c.args.window.now.held checkpoint_magic c.starts_with.result (rw c.held-2.ensures.held at c.starts_with.ensures.value)).0 c.if-not-starts_with.false in
    let stored = subst (λ (l : List ℕ). c.in-Ok-stored_first.stored.items ≡ framed l ++ 0 ∷ []) c.in-Ok.ensures.bytes c.in-Ok-stored_first.ensures in
    begun_checkpoint c.args.window.now (g.S.Source.rest c.args.source.now) before c.requires.open c.requires.within c.requires.first takes (g.S.Source.rest c.kept_checkpoint.new.source) (drop 8 c.args.window.now.held, begins)
    c.kept_checkpoint.new.window c.in-Ok.kept.market c.in-Ok.ensures.kept most c.in-Ok-stored_first.stored.items room stored

pub returns-in-Ok-stored_first-clause-cause : goal.returns-in-Ok-stored_first-clause-cause
returns-in-Ok-stored_first-clause-cause g c = went_on _ _ _ _ c.in-Ok.ensures.cause (λ e. absurd cc) (λ e. absurd cc)

pub returns-in-Err-clause-fails : goal.returns-in-Err-clause-fails
returns-in-Err-clause-fails g c = λ before takes.
    let begins = (starts_is Decides-eqb c.args.window.now.held checkpoint_magic c.starts_with.result (rw c.held-2.ensures.held at c.starts_with.ensures.value)).0 c.if-not-starts_with.false in
    out_stored c.args.window.now (g.S.Source.rest c.args.source.now) before c.requires.open c.requires.within c.requires.first takes (g.S.Source.rest c.kept_checkpoint.new.source) (drop 8 c.args.window.now.held, begins)
    c.kept_checkpoint.new.window c.in-Ok.kept.market c.in-Ok.ensures.kept
