use Rattle.std.proofs.Common.{ℕ, drop, refl, sym, subst, ◌∙◌}
use Rattle.std.proofs.lemmas.Bool.{false≢true}
use Rattle.std.proofs.lemmas.Bool.Decides.{Decides-eqb}
use Rattle.std.proofs.lemmas.Slice.Eq.{starts_is}
use Rattle.market_history.specs.declared.start.StartFault.{StartFault}
use Rattle.market_history.specs.Kept.{FindsNone}
use Rattle.market_snapshot.specs.Checkpoints.{checkpoint_magic}
use Rattle.journal_keeping.specs.Beginning.{OpensStart}
use Rattle.journal_keeping.proofs.AtStart.{few_at, opened_at, neither_at, checkpoint_at, unread_at, out_at, unsound_at, of_limit}
use Rattle.journal_keeping.proofs.source_start.start_at.Goals as goal

pub returns-in-Some-clause-opens : goal.returns-in-Some-clause-opens
returns-in-Some-clause-opens g c = λ before takes.
    let begins = (c.in-Some.ensures.exact c.in-Some.version).0 refl in
    opened_at before (g.S.Source.rest c.args.source.now) c.args.window takes c.requires.some c.requires.first c.requires.within c.in-Some.version begins.0 (rw c.held.ensures.held at begins.1) c.advance.new.self c.advance.ensures c.requires.open c.requires.room
    (rw c.held.ensures.held at c.held.ensures.few) c.new_in.result c.new.result.items c.new_in.ensures c.new.ensures.items

pub returns-then-not-starts_with-clause-of_source : goal.returns-then-not-starts_with-clause-of_source
returns-then-not-starts_with-clause-of_source g c = λ before takes. (
  neither_at before (g.S.Source.rest c.args.source.now) c.args.window takes c.requires.some c.requires.first c.requires.within (rw c.held.ensures.held at c.in-None.ensures.none)
      (λ magic.
      let found = (starts_is Decides-eqb c.args.window.held checkpoint_magic c.starts_with.result (rw c.held-2.ensures.held at c.starts_with.ensures.value)).1 magic.0 magic.1 in
      false≢true (sym c.if-not-starts_with.true ∙ found)),
  few_at before (g.S.Source.rest c.args.source.now) c.args.window takes c.requires.some c.requires.first c.requires.within,
)

pub returns-in-Ok-after_checkpoint-clause-opens : goal.returns-in-Ok-after_checkpoint-clause-opens
returns-in-Ok-after_checkpoint-clause-opens g c = λ before takes.
    let begins = (starts_is Decides-eqb c.args.window.held checkpoint_magic c.starts_with.result (rw c.held-2.ensures.held at c.starts_with.ensures.value)).0 c.if-not-starts_with.false in
    let found = c.in-Ok.ensures.kept in
    let at = checkpoint_at before (g.S.Source.rest c.args.source.now) c.args.window takes c.requires.some c.requires.first c.requires.within (g.S.Source.rest c.kept_checkpoint.new.source) (drop 8 c.args.window.held, begins) c.kept_checkpoint.new.window c.in-Ok.kept.market found in
    subst (λ (n : ℕ). OpensStart n c.in-Ok.kept.market c.in-Ok-after_checkpoint.stored.items c.in-Ok-after_checkpoint.window before (g.S.Source.rest c.after_checkpoint.new.source)) found.taken.limit (c.in-Ok-after_checkpoint.ensures.opens before at.0 at.1)

pub returns-in-Ok-clause-of_source : goal.returns-in-Ok-clause-of_source
returns-in-Ok-clause-of_source g c = λ before takes.
    let begins = (starts_is Decides-eqb c.args.window.held checkpoint_magic c.starts_with.result (rw c.held-2.ensures.held at c.starts_with.ensures.value)).0 c.if-not-starts_with.false in
    let found = c.in-Ok.ensures.kept in
    let at = checkpoint_at before (g.S.Source.rest c.args.source.now) c.args.window takes c.requires.some c.requires.first c.requires.within (g.S.Source.rest c.kept_checkpoint.new.source) (drop 8 c.args.window.held, begins) c.kept_checkpoint.new.window c.in-Ok.kept.market found in
    of_limit before (g.S.Source.rest c.after_checkpoint.new.source) c.in-Err.fault c.kept_checkpoint.new.window.limit c.args.window.limit found.taken.limit (c.in-Err.ensures.of_source before at.0 at.1)

pub returns-in-Err-Read-clause-of_source : goal.returns-in-Err-Read-clause-of_source
returns-in-Err-Read-clause-of_source g c = λ before takes.
    let begins = (starts_is Decides-eqb c.args.window.held checkpoint_magic c.starts_with.result (rw c.held-2.ensures.held at c.starts_with.ensures.value)).0 c.if-not-starts_with.false in
    unread_at before (g.S.Source.rest c.args.source.now) c.args.window takes c.requires.some c.requires.first c.requires.within (g.S.Source.rest c.kept_checkpoint.new.source) (drop 8 c.args.window.held, begins)
    (subst (λ (f : StartFault). FindsNone c.args.window (g.S.Source.rest c.args.source.now) (g.S.Source.rest c.kept_checkpoint.new.source) f) c.in-Err-Read.field-0-is c.in-Err-Read.ensures.none)

pub returns-in-Err-Memory-clause-of_source : goal.returns-in-Err-Memory-clause-of_source
returns-in-Err-Memory-clause-of_source g c = λ before takes.
    let begins = (starts_is Decides-eqb c.args.window.held checkpoint_magic c.starts_with.result (rw c.held-2.ensures.held at c.starts_with.ensures.value)).0 c.if-not-starts_with.false in
    out_at before (g.S.Source.rest c.args.source.now) c.args.window takes c.requires.some c.requires.first c.requires.within (g.S.Source.rest c.kept_checkpoint.new.source) (drop 8 c.args.window.held, begins)
    (subst (λ (f : StartFault). FindsNone c.args.window (g.S.Source.rest c.args.source.now) (g.S.Source.rest c.kept_checkpoint.new.source) f) c.in-Err-Memory.field-0-is c.in-Err-Memory.ensures.none)

pub returns-clause-of_source : goal.returns-clause-of_source
returns-clause-of_source g c = λ before takes.
    let begins = (starts_is Decides-eqb c.args.window.held checkpoint_magic c.starts_with.result (rw c.held-2.ensures.held at c.starts_with.ensures.value)).0 c.if-not-starts_with.false in
    unsound_at before (g.S.Source.rest c.args.source.now) c.args.window takes c.requires.some c.requires.first c.requires.within (g.S.Source.rest c.kept_checkpoint.new.source) (drop 8 c.args.window.held, begins)
    (subst (λ (f : StartFault). FindsNone c.args.window (g.S.Source.rest c.args.source.now) (g.S.Source.rest c.kept_checkpoint.new.source) f) c.in-Err-NoCheckpoint.field-0-is c.in-Err-NoCheckpoint.ensures.none)
