use Rattle.std.proofs.Common.{Some, ◌+◌, ap, sym, subst, ◌∙◌}
use Rattle.flow_io.specs.Windows.{WindowState, Fills}
use Rattle.file_units.proofs.Gone.{went_well}
use Rattle.journal_keeping.specs.declared.fault.InputFault.{InputFault}
use Rattle.journal_keeping.specs.Taking.{NotTaken, source_format}
use Rattle.journal_keeping.proofs.Counts.{went_on, on_ok, on_err}
use Rattle.journal_keeping.proofs.Magic.{after_magic, ended_before, limit_before, other_magic, taken_few, unread_few, none_taken}
use Rattle.journal_keeping.proofs.source_start.open_source.Goals as goal

pub returns-in-Ok-Enough-clause-following : goal.returns-in-Ok-Enough-clause-following
returns-in-Ok-Enough-clause-following g c =
    let before = g.S.Source.rest c.args.source.now in
    let after = g.S.Source.rest c.fill.new.source in
    let filled = c.in-Ok-Enough.ensures in
    let fills = subst (λ (w : WindowState). Fills w c.fill.new.self before after) c.in-Ok.ensures filled.fills in
    let over = filled.open c.in-Ok-Enough.field-0-is ∙ ap (λ (w : WindowState). w.over) c.in-Ok.ensures in
    on_ok c.after_magic.result _ _ (λ window found. after_magic c.args.limit c.fill.new.self before after fills filled.within c.args.version window found.0.0 over found.0.1 found.1 found.2) c.after_magic.ensures.following

pub returns-in-Ok-Enough-clause-of_source : goal.returns-in-Ok-Enough-clause-of_source
returns-in-Ok-Enough-clause-of_source g c =
    let before = g.S.Source.rest c.args.source.now in
    let after = g.S.Source.rest c.fill.new.source in
    let filled = c.in-Ok-Enough.ensures in
    let fills = subst (λ (w : WindowState). Fills w c.fill.new.self before after) c.in-Ok.ensures filled.fills in
    let over = filled.open c.in-Ok-Enough.field-0-is ∙ ap (λ (w : WindowState). w.over) c.in-Ok.ensures in
    on_err c.after_magic.result _ _ (λ fault found. subst (λ (f : InputFault). NotTaken source_format c.args.limit (Some c.args.version) before after f) (sym found.0) (other_magic c.args.limit c.fill.new.self before after fills filled.within c.args.version over (filled.enough.0 c.in-Ok-Enough.field-0-is) found.1)) c.after_magic.ensures.other

pub returns-in-Ok-Ended : goal.returns-in-Ok-Ended
returns-in-Ok-Ended g c =
    let before = g.S.Source.rest c.args.source.now in
    let after = g.S.Source.rest c.fill.new.source in
    let filled = c.in-Ok-Ended.ensures in
    let fills = subst (λ (w : WindowState). Fills w c.fill.new.self before after) c.in-Ok.ensures filled.fills in
    let ends = filled.ended.0 c.in-Ok-Ended.field-0-is in
    record {
      following = tt;
      of_source = ended_before c.args.limit c.fill.new.self before after fills filled.within (Some c.args.version) ends.0 ends.1 (filled.all ends.1);
      taken = λ _. taken_few c.args.limit c.fill.new.self before after fills filled.within;
      cause = went_on _ _ (g.S.Source.faults c.args.source.now) (g.S.Source.faults c.fill.new.source) filled.cause went_well (λ e. cc e);
    }

pub returns-in-Ok-Limited : goal.returns-in-Ok-Limited
returns-in-Ok-Limited g c =
    let before = g.S.Source.rest c.args.source.now in
    let after = g.S.Source.rest c.fill.new.source in
    let filled = c.in-Ok-Limited.ensures in
    let fills = subst (λ (w : WindowState). Fills w c.fill.new.self before after) c.in-Ok.ensures filled.fills in
    let ends = filled.limited.0 c.in-Ok-Limited.field-0-is in
    record {
      following = tt;
      of_source = limit_before c.args.limit c.fill.new.self before after fills filled.within (Some c.args.version) ends.0 ends.1;
      taken = λ _. taken_few c.args.limit c.fill.new.self before after fills filled.within;
      cause = went_on _ _ (g.S.Source.faults c.args.source.now) (g.S.Source.faults c.fill.new.source) filled.cause went_well (λ e. cc e);
    }

pub returns-in-Ok-Enough-clause-taken : goal.returns-in-Ok-Enough-clause-taken
returns-in-Ok-Enough-clause-taken g c = λ _.
    let before = g.S.Source.rest c.args.source.now in
    let after = g.S.Source.rest c.fill.new.source in
    let filled = c.in-Ok-Enough.ensures in
    let fills = subst (λ (w : WindowState). Fills w c.fill.new.self before after) c.in-Ok.ensures filled.fills in
    taken_few c.args.limit c.fill.new.self before after fills filled.within

pub returns-in-Err-fill-clause-of_source : goal.returns-in-Err-fill-clause-of_source
returns-in-Err-fill-clause-of_source g c =
    let before = g.S.Source.rest c.args.source.now in
    let after = g.S.Source.rest c.fill.new.source in
    let filled = c.in-Err-fill.ensures in
    let fills = subst (λ (w : WindowState). Fills w c.fill.new.self before after) c.in-Ok.ensures filled.fills in
    unread_few c.args.limit c.fill.new.self before after fills filled.within filled.failed.0 filled.failed.1

pub returns-in-Err-fill-clause-taken : goal.returns-in-Err-fill-clause-taken
returns-in-Err-fill-clause-taken g c = λ _.
    let before = g.S.Source.rest c.args.source.now in
    let after = g.S.Source.rest c.fill.new.source in
    let filled = c.in-Err-fill.ensures in
    let fills = subst (λ (w : WindowState). Fills w c.fill.new.self before after) c.in-Ok.ensures filled.fills in
    taken_few c.args.limit c.fill.new.self before after fills filled.within

pub returns-in-Err-clause-taken : goal.returns-in-Err-clause-taken
returns-in-Err-clause-taken g c = λ _. none_taken (g.S.Source.rest c.args.source.now) (c.args.limit + 1)
