use Rattle.std.proofs.Common.{◌≡◌, ◌*◌, arith, ⊎_elim, inl, inr, ℕ, List, IfSome, Result, Err, refl, ap, sym, subst, ◌∙◌}
use Rattle.std.specs.Prelude.{⊤}
use Rattle.file_units.specs.declared.input.TakeFault.TheVariants.{Broken}
use Rattle.journal_keeping.specs.declared.fault.ServeFault.TheVariants as serve
use Rattle.journal_keeping.specs.declared.fault.KeepFault.{KeepFault}
use Rattle.journal_keeping.specs.Faults.{of_begin, kept_result}
use Rattle.journal_keeping.specs.Ended.{IsRefusal}
use Rattle.journal_keeping.proofs.Faults.{same_kept, same_begin, begin_read, begin_disk, begin_write, disk_begin, begin_refusal, went_read, went_write, went_disk, went_refused}
use Rattle.journal_keeping.proofs.Starting.{begun_known, none_begun, none_open, can_serve}
use Rattle.journal_keeping.proofs.Whole.{refused_not_legal}
use Rattle.journal_keeping.proofs.Counts.{if_some, if_both, uncalled, later_call, blames_alike}
use Rattle.journal_keeping.proofs.Making.{each_some}
use Rattle.journal_keeping.proofs.Dialogs.{serves_none, serves_wider, may_begin_again}
use Rattle.journal_keeping.proofs.Growing.{grows_served, grows_unserved}
use Rattle.journal_keeping.specs.Lengths.{longest_stored_entry}
use Rattle.line_keeping.specs.Inputs.{line_starts}
use Rattle.line_keeping.specs.Keeping.{line_dialog}
use Rattle.line_keeping.specs.Private.{lines_format}
use Rattle.line_keeping.specs.Ended.{ComesTo, LeavesNone}
use Rattle.journal_keeping.specs.Outputs.{output}
use Rattle.line_keeping.proofs.Shown.{shown_more}
use Rattle.line_keeping.proofs.Whole.{adds_none, comes_not_begun, keeps_served, comes_served, leaves_none, taken_few}
use Rattle.line_keeping.proofs.serving.serve_lines.Goals as goal

-- ---- nothing was answered

pub returns-in-Err-clause-keeps : goal.returns-in-Err-clause-keeps
returns-in-Err-clause-keeps g c = λ begin old market legal.
    let content = g.S.Source.rest c.args.source.now in
    serves_none line_dialog c.args.limit content (adds_none c.args.limit content) _ begin (g.D.Disk.state c.args.disk.now) (g.D.Disk.state c.begin.new.disk) old market (output g.K.Sink.held g.K.Sink.calls g.K.Sink.faults c.args.out.now) (g.met.D.Disk.is_disk c.begin.new.disk) (c.in-Err.ensures.fails.safe begin old market legal)

pub returns-in-Err-clause-again : goal.returns-in-Err-clause-again
returns-in-Err-clause-again g c = λ begin old market legal.
    let start = g.D.Disk.state c.args.disk.now in
    let end = g.D.Disk.state c.begin.new.disk in
    let content = g.S.Source.rest c.args.source.now in
    let out = output g.K.Sink.held g.K.Sink.calls g.K.Sink.faults c.args.out.now in
    let is_disk = g.met.D.Disk.is_disk c.begin.new.disk in
    may_begin_again line_dialog c.args.limit content ⊤ begin start end old market out out legal is_disk (serves_none line_dialog c.args.limit content (adds_none c.args.limit content) ⊤ begin start end old market out is_disk (c.in-Err.ensures.fails.safe begin old market legal))

pub returns-in-Err-clause-lengths : goal.returns-in-Err-clause-lengths
returns-in-Err-clause-lengths g c =
    each_some (g.D.Disk.state c.args.disk.now).content _ (λ (held : List ℕ). grows_unserved (λ n. longest_stored_entry * n) (λ count. omega arith) c.args.limit (g.S.Source.rest c.args.source.now) (g.D.Disk.state c.args.disk.now) (g.D.Disk.state c.begin.new.disk) c.in-Err.ensures.fails.lengths)

pub returns-in-Err-clause-comes : goal.returns-in-Err-clause-comes
returns-in-Err-clause-comes g c =
    subst (λ (f : KeepFault). IfSome (g.D.Disk.state c.args.disk.now).content (λ held. ComesTo c.args.limit held (g.S.Source.rest c.args.source.now) (g.S.Source.rest c.begin.new.source) (g.D.Disk.state c.begin.new.disk) (output g.K.Sink.held g.K.Sink.calls g.K.Sink.faults c.args.out.now) (output g.K.Sink.held g.K.Sink.calls g.K.Sink.faults c.args.out.now) (Err f))) (sym c.from.ensures)
    (if_some (g.D.Disk.state c.args.disk.now).content _ _
    (λ (held : List ℕ) why. comes_not_begun c.args.limit held (g.S.Source.rest c.args.source.now) (g.S.Source.rest c.begin.new.source) (g.D.Disk.state c.begin.new.disk) (output g.K.Sink.held g.K.Sink.calls g.K.Sink.faults c.args.out.now) c.in-Err.fault why c.in-Err.ensures.fails.unread)
    c.in-Err.ensures.fails.refused)

pub returns-in-Err-clause-legal : goal.returns-in-Err-clause-legal
returns-in-Err-clause-legal g c = λ begin old market legal small.
    subst (λ (f : KeepFault). ¬ IsRefusal (Err f)) (sym c.from.ensures)
    (refused_not_legal lines_format begin c.args.limit (g.S.Source.rest c.args.source.now) (g.S.Source.rest c.begin.new.source) (g.D.Disk.state c.args.disk.now) (g.D.Disk.state c.begin.new.disk) old market c.in-Err.fault legal small c.in-Err.ensures.fails.refused)

pub returns-in-Err-clause-untouched : goal.returns-in-Err-clause-untouched
returns-in-Err-clause-untouched g c =
    if_both (g.D.Disk.state c.args.disk.now).content _ _ _
    (λ (held : List ℕ) looks not none. let of = none_open lines_format c.args.limit held (g.S.Source.rest c.args.source.now) (g.S.Source.rest c.begin.new.source) (g.D.Disk.state c.begin.new.disk) c.in-Err.fault none not in (looks none, c.in-Err.ensures.unasked of.0 (ap Err of.1), refl))
    c.in-Err.ensures.fails.looks c.in-Err.ensures.fails.refused

pub returns-in-Err-clause-taken : goal.returns-in-Err-clause-taken
returns-in-Err-clause-taken g c = c.in-Err.ensures.fails.taken

pub returns-in-Err-clause-made : goal.returns-in-Err-clause-made
returns-in-Err-clause-made g c = c.in-Err.ensures.fails.made

pub returns-in-Err-clause-unasked : goal.returns-in-Err-clause-unasked
returns-in-Err-clause-unasked g c = λ refusal.
    let of = begin_refusal c.in-Err.fault (subst (λ (f : KeepFault). IsRefusal (Err f)) c.from.ensures refusal) in
    (c.in-Err.ensures.unasked of.0 (ap Err of.1), refl)

pub returns-in-Err-clause-disk_cause : goal.returns-in-Err-clause-disk_cause
returns-in-Err-clause-disk_cause g c =
    blames_alike _ _ (g.D.Disk.state c.args.disk.now).faults (g.D.Disk.state c.begin.new.disk).faults
    (λ fails. ap Err (c.from.ensures ∙ disk_begin c.in-Err.fault (⊎_elim (λ e. inl (same_begin c.in-Err.fault _ e)) (λ e. inr (same_begin c.in-Err.fault _ e)) fails)))
    (λ e. ⊎_elim (λ is. inl (ap Err is)) (λ is. inr (ap Err is)) (begin_disk c.in-Err.fault (sym c.from.ensures ∙ same_kept c.from.result _ e)))
    c.in-Err.ensures.disk_cause

pub returns-in-Err-clause-source_cause : goal.returns-in-Err-clause-source_cause
returns-in-Err-clause-source_cause g c =
    blames_alike _ _ (g.S.Source.faults c.args.source.now) (g.S.Source.faults c.begin.new.source)
    (λ e. ap Err (c.from.ensures ∙ ap of_begin (same_begin c.in-Err.fault _ e)))
    (λ e. ap Err (begin_read c.in-Err.fault (sym c.from.ensures ∙ same_kept c.from.result _ e)))
    c.in-Err.ensures.source_cause

pub returns-in-Err-clause-out_cause : goal.returns-in-Err-clause-out_cause
returns-in-Err-clause-out_cause g c =
    uncalled _ (g.K.Sink.faults c.args.out.now) (λ e. begin_write c.in-Err.fault (sym c.from.ensures ∙ same_kept c.from.result _ e))

-- ---- lines were answered

pub serve_on-requires-clause-kept : goal.serve_on-requires-clause-kept
serve_on-requires-clause-kept g c =
    let b = c.in-Ok.ensures.begun in
    can_serve line_starts (g.D.Disk.state c.args.disk.now).content (g.D.Disk.state c.begin.new.disk).content b.begin b.input c.in-Ok.field-0.writer.session c.in-Ok.field-0.writer.entries c.in-Ok.field-0.writer.appender (g.D.Disk.state c.begin.new.disk) b.following.starts b.told b.begun

pub returns-in-Ok-clause-keeps : goal.returns-in-Ok-clause-keeps
returns-in-Ok-clause-keeps g c = λ begin old market legal.
    let start = g.D.Disk.state c.args.disk.now in
    let mid = g.D.Disk.state c.begin.new.disk in
    let end = g.D.Disk.state c.serve_on.new.disk in
    let content = g.S.Source.rest c.args.source.now in
    let after = g.S.Source.rest c.begin.new.source in
    let left = g.S.Source.rest c.serve_on.new.source in
    let out = output g.K.Sink.held g.K.Sink.calls g.K.Sink.faults c.args.out.now in
    let later = output g.K.Sink.held g.K.Sink.calls g.K.Sink.faults c.serve_on.new.out in
    let b = c.in-Ok.ensures.begun in
    let writer = c.in-Ok.field-0.writer in
    let known = begun_known lines_format c.args.limit start begin old market legal content mid b.begin b.input writer.session writer.entries writer.appender b.following.starts b.following.begins b.begun in
    serves_wider line_dialog c.args.limit content (c.serve_on.result ≡ Err (Broken serve.Write)) _ begin start end old market out later (λ e. c.kept.ensures ∙ ap kept_result e)
    (keeps_served c.args.limit content after left c.in-Ok.field-0.input.window b.begin b.input b.following c.serve_on.result begin start mid end old market writer.session writer.entries writer.appender out later known (b.moments begin old market legal) c.serve_on.ensures.goes)

pub returns-in-Ok-clause-again : goal.returns-in-Ok-clause-again
returns-in-Ok-clause-again g c = λ begin old market legal.
    let start = g.D.Disk.state c.args.disk.now in
    let mid = g.D.Disk.state c.begin.new.disk in
    let end = g.D.Disk.state c.serve_on.new.disk in
    let content = g.S.Source.rest c.args.source.now in
    let after = g.S.Source.rest c.begin.new.source in
    let left = g.S.Source.rest c.serve_on.new.source in
    let out = output g.K.Sink.held g.K.Sink.calls g.K.Sink.faults c.args.out.now in
    let later = output g.K.Sink.held g.K.Sink.calls g.K.Sink.faults c.serve_on.new.out in
    let b = c.in-Ok.ensures.begun in
    let writer = c.in-Ok.field-0.writer in
    let known = begun_known lines_format c.args.limit start begin old market legal content mid b.begin b.input writer.session writer.entries writer.appender b.following.starts b.following.begins b.begun in
    may_begin_again line_dialog c.args.limit content (c.serve_on.result ≡ Err (Broken serve.Write)) begin start end old market out later legal (g.met.D.Disk.is_disk c.serve_on.new.disk)
    (keeps_served c.args.limit content after left c.in-Ok.field-0.input.window b.begin b.input b.following c.serve_on.result begin start mid end old market writer.session writer.entries writer.appender out later known (b.moments begin old market legal) c.serve_on.ensures.goes)

pub returns-in-Ok-clause-lengths : goal.returns-in-Ok-clause-lengths
returns-in-Ok-clause-lengths g c =
    let start = g.D.Disk.state c.args.disk.now in
    let mid = g.D.Disk.state c.begin.new.disk in
    let end = g.D.Disk.state c.serve_on.new.disk in
    let b = c.in-Ok.ensures.begun in
    let writer = c.in-Ok.field-0.writer in
    if_some start.content _ _
    (λ (held : List ℕ) begun. grows_served lines_format c.args.limit b.input c.in-Ok.field-0.input.window (g.S.Source.rest c.args.source.now) (g.S.Source.rest c.begin.new.source) b.following (λ n. longest_stored_entry * n) (λ size count few. omega (arith, few))
    b.begin start mid end (g.met.D.Disk.is_disk c.begin.new.disk) b.lengths held writer.session writer.entries writer.appender begun c.serve_on.ensures.lengths)
    b.begun

pub returns-in-Ok-clause-comes : goal.returns-in-Ok-clause-comes
returns-in-Ok-clause-comes g c =
    let start = g.D.Disk.state c.args.disk.now in
    let mid = g.D.Disk.state c.begin.new.disk in
    let end = g.D.Disk.state c.serve_on.new.disk in
    let out = output g.K.Sink.held g.K.Sink.calls g.K.Sink.faults c.args.out.now in
    let later = output g.K.Sink.held g.K.Sink.calls g.K.Sink.faults c.serve_on.new.out in
    let b = c.in-Ok.ensures.begun in
    let writer = c.in-Ok.field-0.writer in
    subst (λ (r : Result ⊤ KeepFault). IfSome start.content (λ held. ComesTo c.args.limit held (g.S.Source.rest c.args.source.now) (g.S.Source.rest c.serve_on.new.source) end out later r)) (sym c.kept.ensures)
    (if_some start.content _ _
    (λ (held : List ℕ) begun. comes_served c.args.limit held (g.S.Source.rest c.args.source.now) mid b.begin b.input writer.session writer.entries writer.appender begun (g.S.Source.rest c.begin.new.source) (g.S.Source.rest c.serve_on.new.source)
    c.in-Ok.field-0.input.window b.following end out later c.serve_on.result c.serve_on.ensures.goes)
    b.begun)

pub returns-in-Ok-clause-legal : goal.returns-in-Ok-clause-legal
returns-in-Ok-clause-legal g c = λ begin old market legal small refusal. went_refused c.serve_on.result (subst IsRefusal c.kept.ensures refusal)

pub returns-in-Ok-clause-unasked : goal.returns-in-Ok-clause-unasked
returns-in-Ok-clause-unasked g c = λ refusal. absurd (went_refused c.serve_on.result (subst IsRefusal c.kept.ensures refusal))

pub returns-in-Ok-clause-left : goal.returns-in-Ok-clause-left
returns-in-Ok-clause-left g c =
    let on = c.serve_on.ensures.goes in
    subst (λ (r : Result ⊤ KeepFault). LeavesNone r (g.S.Source.rest c.serve_on.new.source)) (sym c.kept.ensures) (leaves_none _ _ _ _ on.read on.line c.serve_on.result on.reads)

pub returns-in-Ok-clause-taken : goal.returns-in-Ok-clause-taken
returns-in-Ok-clause-taken g c =
    let b = c.in-Ok.ensures.begun in
    let on = c.serve_on.ensures.goes in
    taken_few c.args.limit b.input c.in-Ok.field-0.input.window (g.S.Source.rest c.args.source.now) (g.S.Source.rest c.begin.new.source) (g.S.Source.rest c.serve_on.new.source) on.taken b.following on.takes on.few

pub returns-in-Ok-clause-untouched : goal.returns-in-Ok-clause-untouched
returns-in-Ok-clause-untouched g c =
    let b = c.in-Ok.ensures.begun in
    none_begun line_starts (g.D.Disk.state c.args.disk.now).content b.begin b.input c.in-Ok.field-0.writer.session c.in-Ok.field-0.writer.entries c.in-Ok.field-0.writer.appender (g.D.Disk.state c.begin.new.disk) _ b.begun

pub returns-in-Ok-clause-made : goal.returns-in-Ok-clause-made
returns-in-Ok-clause-made g c =
    let b = c.in-Ok.ensures.begun in
    let on = c.serve_on.ensures.goes in
    each_some (g.D.Disk.state c.args.disk.now).content _ (λ (held : List ℕ) new. inr (shown_more c.args.limit (g.S.Source.rest c.args.source.now) (g.S.Source.rest c.begin.new.source) (g.S.Source.rest c.serve_on.new.source) on.taken b.following.shown on.takes))

pub returns-in-Ok-clause-disk_cause : goal.returns-in-Ok-clause-disk_cause
returns-in-Ok-clause-disk_cause g c =
    later_call _ _ (g.D.Disk.state c.args.disk.now).faults (g.D.Disk.state c.begin.new.disk).faults (g.D.Disk.state c.serve_on.new.disk).faults c.in-Ok.ensures.disk_cause (λ fails. ⊎_elim (λ e. cc e) (λ e. cc e) fails)
    (blames_alike _ _ (g.D.Disk.state c.begin.new.disk).faults (g.D.Disk.state c.serve_on.new.disk).faults (λ e. c.kept.ensures ∙ ap kept_result e) (λ e. went_disk c.serve_on.result (sym c.kept.ensures ∙ e)) c.serve_on.ensures.disk_cause)

pub returns-in-Ok-clause-source_cause : goal.returns-in-Ok-clause-source_cause
returns-in-Ok-clause-source_cause g c =
    later_call _ _ (g.S.Source.faults c.args.source.now) (g.S.Source.faults c.begin.new.source) (g.S.Source.faults c.serve_on.new.source) c.in-Ok.ensures.source_cause (λ e. cc e)
    (blames_alike _ _ (g.S.Source.faults c.begin.new.source) (g.S.Source.faults c.serve_on.new.source) (λ e. c.kept.ensures ∙ ap kept_result e) (λ e. went_read c.serve_on.result (sym c.kept.ensures ∙ e)) c.serve_on.ensures.source_cause)

pub returns-in-Ok-clause-out_cause : goal.returns-in-Ok-clause-out_cause
returns-in-Ok-clause-out_cause g c =
    blames_alike _ _ (g.K.Sink.faults c.args.out.now) (g.K.Sink.faults c.serve_on.new.out) (λ e. c.kept.ensures ∙ ap kept_result e) (λ e. went_write c.serve_on.result (sym c.kept.ensures ∙ e)) c.serve_on.ensures.out_cause
