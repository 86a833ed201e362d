use Rattle.std.proofs.Common.{◌≡◌, inl, inr, ℕ, List, [], ◌∷◌, ◌++◌, None, length, refl, sym, ap, subst, ◌∙◌, arith}
use Rattle.wire_records.specs.Grammars.{BeginsWith}
use Rattle.wire_records.specs.Formats.{commands}
use Rattle.wire_records.specs.declared.version.Version.{Version}
use Rattle.file_units.proofs.Gone.{went_well}
use Rattle.journal_disk.specs.Entries.{framed}
use Rattle.journal_keeping.specs.declared.fault.InputFault.{InputFault}
use Rattle.journal_keeping.specs.Taking.{NotTaken, source_format}
use Rattle.journal_keeping.proofs.Counts.{went_on}
use Rattle.journal_keeping.proofs.PastCheckpoint.{few_after, unread_after, ended_after, limit_after, other_after, out_after, opened_after, not_read_then}
use Rattle.journal_keeping.proofs.ShortCheckpoints.{checkpoint_short}
use Rattle.journal_keeping.proofs.source_start.after_checkpoint.Goals as goal

pub returns-in-Ok-Ended : goal.returns-in-Ok-Ended
returns-in-Ok-Ended g c =
    let x = g.S.Source.rest c.args.source.now in
    let y = g.S.Source.rest c.fill.new.source in
    let filled = c.in-Ok-Ended.ensures in
    let ends = filled.ended.0 c.in-Ok-Ended.field-0-is in
    record {
      opens = tt;
      of_source = λ before one takes. (
        ended_after c.args.market.now c.args.window c.fill.new.self x y filled.fills filled.within c.requires.placed c.requires.open before one takes ends.1 ends.0 (filled.all ends.1),
        few_after c.args.market.now c.args.window c.fill.new.self x y filled.fills filled.within c.requires.placed c.requires.open before one takes,
      );
      cause = went_on _ _ (g.S.Source.faults c.args.source.now) (g.S.Source.faults c.fill.new.source) filled.cause went_well (λ e. cc e);
    }

pub returns-in-Ok-Limited : goal.returns-in-Ok-Limited
returns-in-Ok-Limited g c =
    let x = g.S.Source.rest c.args.source.now in
    let y = g.S.Source.rest c.fill.new.source in
    let filled = c.in-Ok-Limited.ensures in
    let ends = filled.limited.0 c.in-Ok-Limited.field-0-is in
    record {
      opens = tt;
      of_source = λ before one takes. (
        limit_after c.args.market.now c.args.window c.fill.new.self x y filled.fills filled.within c.requires.placed c.requires.open before one takes ends.1 ends.0,
        few_after c.args.market.now c.args.window c.fill.new.self x y filled.fills filled.within c.requires.placed c.requires.open before one takes,
      );
      cause = went_on _ _ (g.S.Source.faults c.args.source.now) (g.S.Source.faults c.fill.new.source) filled.cause went_well (λ e. cc e);
    }

pub returns-in-Err-clause-of_source : goal.returns-in-Err-clause-of_source
returns-in-Err-clause-of_source g c = λ before one takes.
    let x = g.S.Source.rest c.args.source.now in
    let y = g.S.Source.rest c.fill.new.source in
    let filled = c.in-Err.ensures in (
      unread_after c.args.market.now c.args.window c.fill.new.self x y filled.fills filled.within c.requires.placed c.requires.open before one takes filled.failed.0 filled.failed.1,
      few_after c.args.market.now c.args.window c.fill.new.self x y filled.fills filled.within c.requires.placed c.requires.open before one takes,
    )

pub returns-in-Err-clause-cause : goal.returns-in-Err-clause-cause
returns-in-Err-clause-cause g c =
    let first = c.in-Err.ensures.cause in
    record { later = first.later; rose = λ _. first.rose refl; quiet = λ not. absurd (not refl) }

pub stored_first-requires : goal.stored_first-requires
stored_first-requires g c = omega (arith, ap length c.requires.checkpoint, checkpoint_short c.args.market.now c.version.ensures.consistent)

pub returns-in-Ok-stored_first-clause-opens : goal.returns-in-Ok-stored_first-clause-opens
returns-in-Ok-stored_first-clause-opens g c = λ before one takes.
    let x = g.S.Source.rest c.args.source.now in
    let y = g.S.Source.rest c.fill.new.source in
    let filled = c.in-Ok-Enough.ensures in
    let found = c.in-Ok.ensures.following in
    let stored = subst (λ (l : List ℕ). c.in-Ok-stored_first.stored.items ≡ framed l ++ 0 ∷ []) c.requires.checkpoint c.in-Ok-stored_first.ensures in
    opened_after c.args.market.now c.args.window c.fill.new.self x y filled.fills filled.within c.requires.placed c.requires.open before one takes (filled.open c.in-Ok-Enough.field-0-is ∙ c.requires.open) c.requires.room c.in-Ok.window found.0.0
    (subst (λ (v : Version). BeginsWith commands.magics c.fill.new.self.held v found.0.0) c.version.ensures.value found.0.1) found.1 found.2 c.args.market.now c.in-Ok-stored_first.stored.items refl stored

pub returns-in-Err-stored_first-clause-of_source : goal.returns-in-Err-stored_first-clause-of_source
returns-in-Err-stored_first-clause-of_source g c = λ before one takes.
    let x = g.S.Source.rest c.args.source.now in
    let y = g.S.Source.rest c.fill.new.source in
    let filled = c.in-Ok-Enough.ensures in (
      inr (refl, out_after c.args.market.now c.args.window c.fill.new.self x y filled.fills filled.within c.requires.placed c.requires.open before one takes (filled.open c.in-Ok-Enough.field-0-is ∙ c.requires.open)),
      few_after c.args.market.now c.args.window c.fill.new.self x y filled.fills filled.within c.requires.placed c.requires.open before one takes,
    )

pub returns-in-Err-stored_first-clause-cause : goal.returns-in-Err-stored_first-clause-cause
returns-in-Err-stored_first-clause-cause g c =
    went_on _ _ (g.S.Source.faults c.args.source.now) (g.S.Source.faults c.fill.new.source) c.in-Ok-Enough.ensures.cause went_well (λ e. cc e)

pub returns-in-Err-after_magic-clause-of_source : goal.returns-in-Err-after_magic-clause-of_source
returns-in-Err-after_magic-clause-of_source g c = λ before one takes.
    let x = g.S.Source.rest c.args.source.now in
    let y = g.S.Source.rest c.fill.new.source in
    let filled = c.in-Ok-Enough.ensures in
    let other = c.in-Err-after_magic.ensures.other in
    let none = subst (λ (v : Version). (body : List ℕ) → ¬ BeginsWith commands.magics c.fill.new.self.held v body) c.version.ensures.value other.1 in (
      subst (λ (f : InputFault). NotTaken source_format c.args.window.limit None before y f) (sym other.0)
          (other_after c.args.market.now c.args.window c.fill.new.self x y filled.fills filled.within c.requires.placed c.requires.open before one takes (filled.open c.in-Ok-Enough.field-0-is ∙ c.requires.open) (filled.enough.0 c.in-Ok-Enough.field-0-is) none),
      few_after c.args.market.now c.args.window c.fill.new.self x y filled.fills filled.within c.requires.placed c.requires.open before one takes,
    )

pub returns-in-Err-after_magic-clause-cause : goal.returns-in-Err-after_magic-clause-cause
returns-in-Err-after_magic-clause-cause g c =
    went_on _ _ (g.S.Source.faults c.args.source.now) (g.S.Source.faults c.fill.new.source) c.in-Ok-Enough.ensures.cause went_well (not_read_then c.in-Err-after_magic.fault (inl c.in-Err-after_magic.ensures.other.0))
