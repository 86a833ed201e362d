use Rattle.std.proofs.Common.{◌+◌, ℕ, None, ap, subst, ◌∙◌}
use Rattle.flow_io.specs.Windows.{WindowState, Fills}
use Rattle.file_units.proofs.Gone.{went_well}
use Rattle.journal_keeping.specs.Beginning.{OpensStart}
use Rattle.journal_keeping.proofs.Counts.{went_on, later_call, on_ok, on_err}
use Rattle.journal_keeping.proofs.Magic.{ended_before, limit_before, taken_few, unread_few, none_taken, held_taken, held_limit}
use Rattle.journal_keeping.proofs.AtStart.{of_limit, after_err}
use Rattle.journal_keeping.proofs.source_start.open_start.Goals as goal

pub returns-in-Ok-Enough-clause-opens : goal.returns-in-Ok-Enough-clause-opens
returns-in-Ok-Enough-clause-opens g c =
    let before = g.S.Source.rest c.args.source.now in
    let between = g.S.Source.rest c.fill.new.source in
    let after = g.S.Source.rest c.start_at.new.source in
    let filled = c.in-Ok-Enough.ensures in
    let fills = subst (λ (w : WindowState). Fills w c.fill.new.self before between) c.in-Ok.ensures filled.fills in
    let over = filled.open c.in-Ok-Enough.field-0-is ∙ ap (λ (w : WindowState). w.over) c.in-Ok.ensures in
    let taken = held_taken c.args.limit c.fill.new.self before between fills filled.within over in
    on_ok c.start_at.result _ _ (λ o opens. subst (λ (n : ℕ). OpensStart n o.market o.stored.items o.window before after) (held_limit c.args.limit c.fill.new.self before between fills filled.within) (opens before taken)) c.start_at.ensures.opens

pub returns-in-Ok-Enough-clause-of_source : goal.returns-in-Ok-Enough-clause-of_source
returns-in-Ok-Enough-clause-of_source g c =
    let before = g.S.Source.rest c.args.source.now in
    let between = g.S.Source.rest c.fill.new.source in
    let after = g.S.Source.rest c.start_at.new.source in
    let filled = c.in-Ok-Enough.ensures in
    let fills = subst (λ (w : WindowState). Fills w c.fill.new.self before between) c.in-Ok.ensures filled.fills in
    let over = filled.open c.in-Ok-Enough.field-0-is ∙ ap (λ (w : WindowState). w.over) c.in-Ok.ensures in
    let taken = held_taken c.args.limit c.fill.new.self before between fills filled.within over in
    on_err c.start_at.result _ _ (λ fault of. (of_limit before after fault c.fill.new.self.limit c.args.limit (held_limit c.args.limit c.fill.new.self before between fills filled.within) (of before taken)).0) c.start_at.ensures.of_source

pub returns-in-Ok-Enough-clause-taken : goal.returns-in-Ok-Enough-clause-taken
returns-in-Ok-Enough-clause-taken g c =
    let before = g.S.Source.rest c.args.source.now in
    let between = g.S.Source.rest c.fill.new.source in
    let after = g.S.Source.rest c.start_at.new.source in
    let filled = c.in-Ok-Enough.ensures in
    let fills = subst (λ (w : WindowState). Fills w c.fill.new.self before between) c.in-Ok.ensures filled.fills in
    let over = filled.open c.in-Ok-Enough.field-0-is ∙ ap (λ (w : WindowState). w.over) c.in-Ok.ensures in
    let taken = held_taken c.args.limit c.fill.new.self before between fills filled.within over in
    after_err c.start_at.result _ _ (λ fault of. (of_limit before after fault c.fill.new.self.limit c.args.limit (held_limit c.args.limit c.fill.new.self before between fills filled.within) (of before taken)).1) c.start_at.ensures.of_source

pub returns-in-Ok-Enough-clause-cause : goal.returns-in-Ok-Enough-clause-cause
returns-in-Ok-Enough-clause-cause g c =
    later_call _ _ (g.S.Source.faults c.args.source.now) (g.S.Source.faults c.fill.new.source) (g.S.Source.faults c.start_at.new.source) c.in-Ok-Enough.ensures.cause went_well c.start_at.ensures.cause

pub returns-in-Ok-Ended : goal.returns-in-Ok-Ended
returns-in-Ok-Ended g c =
    let before = g.S.Source.rest c.args.source.now in
    let after = g.S.Source.rest c.fill.new.source in
    let filled = c.in-Ok-Ended.ensures in
    let fills = subst (λ (w : WindowState). Fills w c.fill.new.self before after) c.in-Ok.ensures filled.fills in
    let ends = filled.ended.0 c.in-Ok-Ended.field-0-is in
    record {
      opens = tt;
      numbers = tt;
      of_source = ended_before c.args.limit c.fill.new.self before after fills filled.within None ends.0 ends.1 (filled.all ends.1);
      taken = λ _. taken_few c.args.limit c.fill.new.self before after fills filled.within;
      cause = went_on _ _ (g.S.Source.faults c.args.source.now) (g.S.Source.faults c.fill.new.source) filled.cause went_well (λ e. cc e);
    }

pub returns-in-Ok-Limited : goal.returns-in-Ok-Limited
returns-in-Ok-Limited g c =
    let before = g.S.Source.rest c.args.source.now in
    let after = g.S.Source.rest c.fill.new.source in
    let filled = c.in-Ok-Limited.ensures in
    let fills = subst (λ (w : WindowState). Fills w c.fill.new.self before after) c.in-Ok.ensures filled.fills in
    let ends = filled.limited.0 c.in-Ok-Limited.field-0-is in
    record {
      opens = tt;
      numbers = tt;
      of_source = limit_before c.args.limit c.fill.new.self before after fills filled.within None ends.0 ends.1;
      taken = λ _. taken_few c.args.limit c.fill.new.self before after fills filled.within;
      cause = went_on _ _ (g.S.Source.faults c.args.source.now) (g.S.Source.faults c.fill.new.source) filled.cause went_well (λ e. cc e);
    }

pub returns-in-Err-fill-clause-of_source : goal.returns-in-Err-fill-clause-of_source
returns-in-Err-fill-clause-of_source g c =
    let before = g.S.Source.rest c.args.source.now in
    let after = g.S.Source.rest c.fill.new.source in
    let filled = c.in-Err-fill.ensures in
    let fills = subst (λ (w : WindowState). Fills w c.fill.new.self before after) c.in-Ok.ensures filled.fills in
    unread_few c.args.limit c.fill.new.self before after fills filled.within filled.failed.0 filled.failed.1

pub returns-in-Err-fill-clause-taken : goal.returns-in-Err-fill-clause-taken
returns-in-Err-fill-clause-taken g c = λ _.
    let before = g.S.Source.rest c.args.source.now in
    let after = g.S.Source.rest c.fill.new.source in
    let filled = c.in-Err-fill.ensures in
    let fills = subst (λ (w : WindowState). Fills w c.fill.new.self before after) c.in-Ok.ensures filled.fills in
    taken_few c.args.limit c.fill.new.self before after fills filled.within

pub returns-in-Err-clause-taken : goal.returns-in-Err-clause-taken
returns-in-Err-clause-taken g c = λ _. none_taken (g.S.Source.rest c.args.source.now) (c.args.limit + 1)
