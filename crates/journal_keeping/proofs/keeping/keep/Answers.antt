use Rattle.std.proofs.Common.{◌≡◌, ◌+◌, ◌*◌, ⊎_elim, inl, inr, ℕ, List, arith, IfSome, Result, Err, refl, ap, sym, subst, ◌∙◌}
use Rattle.std.specs.Prelude.{⊤}
use Rattle.journal_disk.proofs.Lengths.{reach_wider}
use Rattle.wire_records.specs.Formats.{commands}
use Rattle.file_units.specs.Inputs.{HasLongest}
use Rattle.exchange_session.proofs.RunLaws.{run_is_exact}
use Rattle.file_units.specs.declared.input.TakeFault.TheVariants.{Broken}
use Rattle.journal_keeping.specs.declared.fault.ServeFault.TheVariants as serve
use Rattle.journal_keeping.specs.declared.fault.KeepFault.{KeepFault}
use Rattle.journal_keeping.specs.Faults.{of_begin, kept_result}
use Rattle.journal_keeping.specs.Pacing.{KeepsPace}
use Rattle.journal_keeping.specs.Ended.{ComesTo, IsRefusal}
use Rattle.journal_keeping.proofs.Faults.{same_kept, same_begin, begin_read, begin_disk, begin_write, disk_begin, begin_refusal, went_read, went_write, went_disk, went_memory, went_refused}
use Rattle.journal_keeping.proofs.Counts.{if_some, if_both, uncalled, later_call, blames_alike}
use Rattle.journal_keeping.specs.Taking.{source_format}
use Rattle.journal_keeping.specs.Starts.{source_starts}
use Rattle.journal_keeping.proofs.Making.{each_some, start_taken, as_source}
use Rattle.journal_keeping.proofs.Starting.{begun_known, none_begun, none_open, can_serve}
use Rattle.journal_keeping.proofs.Pacing.{paced_unread, unread_out, taken_at_most, paced_served, wants_next}
use Rattle.journal_keeping.specs.Outputs.{output}
use Rattle.journal_keeping.specs.Dialogs.{record_dialog}
use Rattle.journal_keeping.proofs.Dialogs.{serves_none, serves_wider, may_begin_again}
use Rattle.journal_keeping.proofs.Whole.{adds_none, comes_not_begun, comes_served, keeps_served, refused_not_legal}
use Rattle.journal_keeping.specs.Lengths.{longest_stored_entry}
use Rattle.journal_keeping.proofs.Growing.{grows_served, grows_unserved}
use Rattle.journal_keeping.proofs.keeping.keep.Goals as goal

-- ---- nothing was served

pub returns-in-Err-clause-keeps : goal.returns-in-Err-clause-keeps
returns-in-Err-clause-keeps g c = λ begin old market legal.
    let content = g.S.Source.rest c.args.source.now in
    serves_none record_dialog c.args.limit content (adds_none c.args.limit content) _ begin (g.D.Disk.state c.args.disk.now) (g.D.Disk.state c.begin.new.disk) old market (output g.K.Sink.held g.K.Sink.calls g.K.Sink.faults c.args.out.now) (g.met.D.Disk.is_disk c.begin.new.disk) (c.in-Err.ensures.fails.safe begin old market legal)

pub returns-in-Err-clause-again : goal.returns-in-Err-clause-again
returns-in-Err-clause-again g c = λ begin old market legal.
    let start = g.D.Disk.state c.args.disk.now in
    let end = g.D.Disk.state c.begin.new.disk in
    let content = g.S.Source.rest c.args.source.now in
    let out = output g.K.Sink.held g.K.Sink.calls g.K.Sink.faults c.args.out.now in
    let is_disk = g.met.D.Disk.is_disk c.begin.new.disk in
    may_begin_again record_dialog c.args.limit content ⊤ begin start end old market out out legal is_disk (serves_none record_dialog c.args.limit content (adds_none c.args.limit content) ⊤ begin start end old market out is_disk (c.in-Err.ensures.fails.safe begin old market legal))

pub returns-in-Err-clause-comes : goal.returns-in-Err-clause-comes
returns-in-Err-clause-comes g c =
    subst (λ (f : KeepFault). IfSome (g.D.Disk.state c.args.disk.now).content (λ held. ComesTo c.args.limit held (g.S.Source.rest c.args.source.now) (g.D.Disk.state c.begin.new.disk) (output g.K.Sink.held g.K.Sink.calls g.K.Sink.faults c.args.out.now) (output g.K.Sink.held g.K.Sink.calls g.K.Sink.faults c.args.out.now) (Err f))) (sym c.from.ensures)
    (if_some (g.D.Disk.state c.args.disk.now).content _ _
    (λ (held : List ℕ) why. comes_not_begun c.args.limit held (g.S.Source.rest c.args.source.now) (g.S.Source.rest c.begin.new.source) (g.D.Disk.state c.begin.new.disk) (output g.K.Sink.held g.K.Sink.calls g.K.Sink.faults c.args.out.now) c.in-Err.fault why)
    c.in-Err.ensures.fails.refused)

pub returns-in-Err-clause-legal : goal.returns-in-Err-clause-legal
returns-in-Err-clause-legal g c = λ begin old market legal small.
    subst (λ (f : KeepFault). ¬ IsRefusal (Err f)) (sym c.from.ensures)
    (refused_not_legal source_format begin c.args.limit (g.S.Source.rest c.args.source.now) (g.S.Source.rest c.begin.new.source) (g.D.Disk.state c.args.disk.now) (g.D.Disk.state c.begin.new.disk) old market c.in-Err.fault legal small c.in-Err.ensures.fails.refused)

pub returns-in-Err-clause-untouched : goal.returns-in-Err-clause-untouched
returns-in-Err-clause-untouched g c =
    if_both (g.D.Disk.state c.args.disk.now).content _ _ _
    (λ (held : List ℕ) looks not none. let of = none_open source_format c.args.limit held (g.S.Source.rest c.args.source.now) (g.S.Source.rest c.begin.new.source) (g.D.Disk.state c.begin.new.disk) c.in-Err.fault none not in (looks none, c.in-Err.ensures.unasked of.0 (ap Err of.1), refl {a = c.args.out.now}))
    c.in-Err.ensures.fails.looks c.in-Err.ensures.fails.refused

pub returns-in-Err-clause-taken : goal.returns-in-Err-clause-taken
returns-in-Err-clause-taken g c = c.in-Err.ensures.fails.taken

pub returns-in-Err-clause-made : goal.returns-in-Err-clause-made
returns-in-Err-clause-made g c = c.in-Err.ensures.fails.made

pub returns-in-Err-clause-paced : goal.returns-in-Err-clause-paced
returns-in-Err-clause-paced g c =
    subst (λ (f : KeepFault). KeepsPace c.args.limit (g.S.Source.rest c.args.source.now) (g.S.Source.rest c.begin.new.source) (output g.K.Sink.held g.K.Sink.calls g.K.Sink.faults c.args.out.now) (output g.K.Sink.held g.K.Sink.calls g.K.Sink.faults c.args.out.now) (Err f)) (sym c.from.ensures)
    (paced_unread c.args.limit (g.S.Source.rest c.args.source.now) (g.S.Source.rest c.begin.new.source) (output g.K.Sink.held g.K.Sink.calls g.K.Sink.faults c.args.out.now) c.in-Err.fault c.in-Err.ensures.fails.unread)

pub returns-in-Err-clause-allocates : goal.returns-in-Err-clause-allocates
returns-in-Err-clause-allocates g c = λ lacks.
    if_some (g.D.Disk.state c.args.disk.now).content _ _
    (λ (held : List ℕ) why. unread_out c.args.limit held (g.S.Source.rest c.args.source.now) (g.S.Source.rest c.begin.new.source) (g.D.Disk.state c.begin.new.disk) (output g.K.Sink.held g.K.Sink.calls g.K.Sink.faults c.args.out.now) c.in-Err.fault why c.in-Err.ensures.fails.unread (sym c.from.ensures ∙ same_kept c.from.result _ lacks))
    c.in-Err.ensures.fails.refused

pub returns-in-Err-clause-unasked : goal.returns-in-Err-clause-unasked
returns-in-Err-clause-unasked g c = λ refusal.
    let of = begin_refusal c.in-Err.fault (subst (λ (f : KeepFault). IsRefusal (Err f)) c.from.ensures refusal) in
    (c.in-Err.ensures.unasked of.0 (ap Err of.1), refl {a = c.args.out.now})

pub returns-in-Err-clause-disk_cause : goal.returns-in-Err-clause-disk_cause
returns-in-Err-clause-disk_cause g c =
    blames_alike _ _ (g.D.Disk.state c.args.disk.now).faults (g.D.Disk.state c.begin.new.disk).faults
    (λ fails. ap Err (c.from.ensures ∙ disk_begin c.in-Err.fault (⊎_elim (λ e. inl (same_begin c.in-Err.fault _ e)) (λ e. inr (same_begin c.in-Err.fault _ e)) fails)))
    (λ e. ⊎_elim (λ is. inl (ap Err is)) (λ is. inr (ap Err is)) (begin_disk c.in-Err.fault (sym c.from.ensures ∙ same_kept c.from.result _ e)))
    c.in-Err.ensures.disk_cause

pub returns-in-Err-clause-source_cause : goal.returns-in-Err-clause-source_cause
returns-in-Err-clause-source_cause g c =
    blames_alike _ _ (g.S.Source.faults c.args.source.now) (g.S.Source.faults c.begin.new.source)
    (λ e. ap Err (c.from.ensures ∙ ap of_begin (same_begin c.in-Err.fault _ e)))
    (λ e. ap Err (begin_read c.in-Err.fault (sym c.from.ensures ∙ same_kept c.from.result _ e)))
    c.in-Err.ensures.source_cause

pub returns-in-Err-clause-out_cause : goal.returns-in-Err-clause-out_cause
returns-in-Err-clause-out_cause g c =
    uncalled _ (g.K.Sink.faults c.args.out.now) (λ e. begin_write c.in-Err.fault (sym c.from.ensures ∙ same_kept c.from.result _ e))

-- ---- records were served

pub serve_on-requires-clause-longest : goal.serve_on-requires-clause-longest
serve_on-requires-clause-longest g c = subst (HasLongest commands) (sym c.in-Ok.ensures.opened.0) run_is_exact.longest

pub serve_on-requires-clause-kept : goal.serve_on-requires-clause-kept
serve_on-requires-clause-kept g c =
    can_serve source_starts (g.D.Disk.state c.args.disk.now).content (g.D.Disk.state c.begin.new.disk).content c.in-Ok.ensures.begun.begin c.in-Ok.ensures.begun.input c.in-Ok.begun.writer.session c.in-Ok.begun.writer.entries c.in-Ok.begun.writer.appender (g.D.Disk.state c.begin.new.disk) c.in-Ok.ensures.begun.following.starts c.in-Ok.ensures.begun.told c.in-Ok.ensures.begun.begun

pub returns-in-Ok-clause-keeps : goal.returns-in-Ok-clause-keeps
returns-in-Ok-clause-keeps g c = λ begin old market legal.
    let start = g.D.Disk.state c.args.disk.now in
    let mid = g.D.Disk.state c.begin.new.disk in
    let end = g.D.Disk.state c.serve_on.new.disk in
    let content = g.S.Source.rest c.args.source.now in
    let after = g.S.Source.rest c.begin.new.source in
    let left = g.S.Source.rest c.serve_on.new.source in
    let out = output g.K.Sink.held g.K.Sink.calls g.K.Sink.faults c.args.out.now in
    let later = output g.K.Sink.held g.K.Sink.calls g.K.Sink.faults c.serve_on.new.out in
    let known = begun_known source_format c.args.limit start begin old market legal content mid c.in-Ok.ensures.begun.begin c.in-Ok.ensures.begun.input c.in-Ok.begun.writer.session c.in-Ok.begun.writer.entries c.in-Ok.begun.writer.appender c.in-Ok.ensures.begun.following.starts
    c.in-Ok.ensures.begun.following.begins c.in-Ok.ensures.begun.begun in
    serves_wider record_dialog c.args.limit content (c.serve_on.result ≡ Err (Broken serve.Write)) _ begin start end old market out later (λ e. c.kept.ensures ∙ ap kept_result e)
    (keeps_served c.args.limit content after left c.in-Ok.begun.input.window c.in-Ok.ensures.begun.begin c.in-Ok.ensures.begun.input (as_source c.args.limit c.in-Ok.begun.input.window c.in-Ok.ensures.begun.input (g.S.Source.rest c.args.source.now) (g.S.Source.rest c.begin.new.source) c.in-Ok.ensures.begun.following c.in-Ok.ensures.opened.0 c.in-Ok.ensures.opened.1) c.serve_on.result begin start mid end old market c.in-Ok.begun.writer.session c.in-Ok.begun.writer.entries c.in-Ok.begun.writer.appender out later
    known (c.in-Ok.ensures.begun.moments begin old market legal) c.serve_on.ensures.goes)

pub returns-in-Ok-clause-again : goal.returns-in-Ok-clause-again
returns-in-Ok-clause-again g c = λ begin old market legal.
    let start = g.D.Disk.state c.args.disk.now in
    let mid = g.D.Disk.state c.begin.new.disk in
    let end = g.D.Disk.state c.serve_on.new.disk in
    let content = g.S.Source.rest c.args.source.now in
    let after = g.S.Source.rest c.begin.new.source in
    let left = g.S.Source.rest c.serve_on.new.source in
    let out = output g.K.Sink.held g.K.Sink.calls g.K.Sink.faults c.args.out.now in
    let later = output g.K.Sink.held g.K.Sink.calls g.K.Sink.faults c.serve_on.new.out in
    let known = begun_known source_format c.args.limit start begin old market legal content mid c.in-Ok.ensures.begun.begin c.in-Ok.ensures.begun.input c.in-Ok.begun.writer.session c.in-Ok.begun.writer.entries c.in-Ok.begun.writer.appender c.in-Ok.ensures.begun.following.starts
    c.in-Ok.ensures.begun.following.begins c.in-Ok.ensures.begun.begun in
    may_begin_again record_dialog c.args.limit content (c.serve_on.result ≡ Err (Broken serve.Write)) begin start end old market out later legal (g.met.D.Disk.is_disk c.serve_on.new.disk)
    (keeps_served c.args.limit content after left c.in-Ok.begun.input.window c.in-Ok.ensures.begun.begin c.in-Ok.ensures.begun.input (as_source c.args.limit c.in-Ok.begun.input.window c.in-Ok.ensures.begun.input (g.S.Source.rest c.args.source.now) (g.S.Source.rest c.begin.new.source) c.in-Ok.ensures.begun.following c.in-Ok.ensures.opened.0 c.in-Ok.ensures.opened.1) c.serve_on.result begin start mid end old market c.in-Ok.begun.writer.session c.in-Ok.begun.writer.entries c.in-Ok.begun.writer.appender out later
    known (c.in-Ok.ensures.begun.moments begin old market legal) c.serve_on.ensures.goes)

pub returns-in-Ok-clause-comes : goal.returns-in-Ok-clause-comes
returns-in-Ok-clause-comes g c =
    let start = g.D.Disk.state c.args.disk.now in
    let mid = g.D.Disk.state c.begin.new.disk in
    let end = g.D.Disk.state c.serve_on.new.disk in
    let content = g.S.Source.rest c.args.source.now in
    let after = g.S.Source.rest c.begin.new.source in
    let left = g.S.Source.rest c.serve_on.new.source in
    let out = output g.K.Sink.held g.K.Sink.calls g.K.Sink.faults c.args.out.now in
    let later = output g.K.Sink.held g.K.Sink.calls g.K.Sink.faults c.serve_on.new.out in
    subst (λ (r : Result ⊤ KeepFault). IfSome start.content (λ held. ComesTo c.args.limit held content end out later r)) (sym c.kept.ensures)
    (if_some start.content _ _
    (λ (held : List ℕ) begun. comes_served c.args.limit held content mid c.in-Ok.ensures.begun.begin c.in-Ok.ensures.begun.input c.in-Ok.begun.writer.session c.in-Ok.begun.writer.entries c.in-Ok.begun.writer.appender begun after left
    c.in-Ok.begun.input.window (as_source c.args.limit c.in-Ok.begun.input.window c.in-Ok.ensures.begun.input (g.S.Source.rest c.args.source.now) (g.S.Source.rest c.begin.new.source) c.in-Ok.ensures.begun.following c.in-Ok.ensures.opened.0 c.in-Ok.ensures.opened.1) end out later c.serve_on.result c.serve_on.ensures.goes)
    c.in-Ok.ensures.begun.begun)

pub returns-in-Ok-clause-legal : goal.returns-in-Ok-clause-legal
returns-in-Ok-clause-legal g c = λ begin old market legal small refusal. went_refused c.serve_on.result (subst IsRefusal c.kept.ensures refusal)

pub returns-in-Ok-clause-unasked : goal.returns-in-Ok-clause-unasked
returns-in-Ok-clause-unasked g c = λ refusal. absurd (went_refused c.serve_on.result (subst IsRefusal c.kept.ensures refusal))

pub returns-in-Ok-clause-untouched : goal.returns-in-Ok-clause-untouched
returns-in-Ok-clause-untouched g c =
    none_begun source_starts (g.D.Disk.state c.args.disk.now).content c.in-Ok.ensures.begun.begin c.in-Ok.ensures.begun.input c.in-Ok.begun.writer.session c.in-Ok.begun.writer.entries c.in-Ok.begun.writer.appender (g.D.Disk.state c.begin.new.disk) _ c.in-Ok.ensures.begun.begun

pub returns-in-Ok-clause-taken : goal.returns-in-Ok-clause-taken
returns-in-Ok-clause-taken g c =
    let start = g.D.Disk.state c.args.disk.now in
    let mid = g.D.Disk.state c.begin.new.disk in
    let end = g.D.Disk.state c.serve_on.new.disk in
    let content = g.S.Source.rest c.args.source.now in
    let after = g.S.Source.rest c.begin.new.source in
    let left = g.S.Source.rest c.serve_on.new.source in
    let out = output g.K.Sink.held g.K.Sink.calls g.K.Sink.faults c.args.out.now in
    let later = output g.K.Sink.held g.K.Sink.calls g.K.Sink.faults c.serve_on.new.out in
    taken_at_most c.args.limit content after left c.in-Ok.begun.input.window c.in-Ok.ensures.begun.input (as_source c.args.limit c.in-Ok.begun.input.window c.in-Ok.ensures.begun.input (g.S.Source.rest c.args.source.now) (g.S.Source.rest c.begin.new.source) c.in-Ok.ensures.begun.following c.in-Ok.ensures.opened.0 c.in-Ok.ensures.opened.1) c.in-Ok.begun.writer.session c.in-Ok.begun.writer.appender mid end out later c.serve_on.result c.serve_on.ensures.goes

pub returns-in-Ok-clause-paced : goal.returns-in-Ok-clause-paced
returns-in-Ok-clause-paced g c =
    let start = g.D.Disk.state c.args.disk.now in
    let mid = g.D.Disk.state c.begin.new.disk in
    let end = g.D.Disk.state c.serve_on.new.disk in
    let content = g.S.Source.rest c.args.source.now in
    let after = g.S.Source.rest c.begin.new.source in
    let left = g.S.Source.rest c.serve_on.new.source in
    let out = output g.K.Sink.held g.K.Sink.calls g.K.Sink.faults c.args.out.now in
    let later = output g.K.Sink.held g.K.Sink.calls g.K.Sink.faults c.serve_on.new.out in
    subst (KeepsPace c.args.limit content left out later) (sym c.kept.ensures)
    (paced_served c.args.limit content after left c.in-Ok.begun.input.window c.in-Ok.ensures.begun.input (as_source c.args.limit c.in-Ok.begun.input.window c.in-Ok.ensures.begun.input (g.S.Source.rest c.args.source.now) (g.S.Source.rest c.begin.new.source) c.in-Ok.ensures.begun.following c.in-Ok.ensures.opened.0 c.in-Ok.ensures.opened.1) c.in-Ok.begun.writer.session c.in-Ok.begun.writer.appender mid end out later c.serve_on.result c.serve_on.ensures.goes)

pub returns-in-Ok-clause-allocates : goal.returns-in-Ok-clause-allocates
returns-in-Ok-clause-allocates g c = λ lacks.
    let start = g.D.Disk.state c.args.disk.now in
    let mid = g.D.Disk.state c.begin.new.disk in
    let end = g.D.Disk.state c.serve_on.new.disk in
    let content = g.S.Source.rest c.args.source.now in
    let after = g.S.Source.rest c.begin.new.source in
    let left = g.S.Source.rest c.serve_on.new.source in
    let out = output g.K.Sink.held g.K.Sink.calls g.K.Sink.faults c.args.out.now in
    let later = output g.K.Sink.held g.K.Sink.calls g.K.Sink.faults c.serve_on.new.out in
    if_some start.content _ _
    (λ (held : List ℕ) begun. wants_next c.args.limit content after left c.in-Ok.begun.input.window c.in-Ok.ensures.begun.input (as_source c.args.limit c.in-Ok.begun.input.window c.in-Ok.ensures.begun.input (g.S.Source.rest c.args.source.now) (g.S.Source.rest c.begin.new.source) c.in-Ok.ensures.begun.following c.in-Ok.ensures.opened.0 c.in-Ok.ensures.opened.1) c.in-Ok.begun.writer.session c.in-Ok.begun.writer.appender mid end out later held c.in-Ok.ensures.begun.begin c.in-Ok.begun.writer.entries begun c.serve_on.result c.serve_on.ensures.goes (went_memory c.serve_on.result (sym c.kept.ensures ∙ lacks)))
    c.in-Ok.ensures.begun.begun

pub returns-in-Ok-clause-made : goal.returns-in-Ok-clause-made
returns-in-Ok-clause-made g c =
    each_some (g.D.Disk.state c.args.disk.now).content _
    (λ (held : List ℕ) short. inr (start_taken c.args.limit c.in-Ok.begun.input.window c.in-Ok.ensures.begun.input (g.S.Source.rest c.args.source.now) (g.S.Source.rest c.begin.new.source) (g.S.Source.rest c.serve_on.new.source) c.serve_on.ensures.goes.goes.taken (as_source c.args.limit c.in-Ok.begun.input.window c.in-Ok.ensures.begun.input (g.S.Source.rest c.args.source.now) (g.S.Source.rest c.begin.new.source) c.in-Ok.ensures.begun.following c.in-Ok.ensures.opened.0 c.in-Ok.ensures.opened.1) c.serve_on.ensures.goes.goes.takes))

pub returns-in-Err-clause-lengths : goal.returns-in-Err-clause-lengths
returns-in-Err-clause-lengths g c =
    each_some (g.D.Disk.state c.args.disk.now).content _ (λ (held : List ℕ). grows_unserved (λ n. longest_stored_entry * n) (λ count. omega arith) c.args.limit (g.S.Source.rest c.args.source.now) (g.D.Disk.state c.args.disk.now) (g.D.Disk.state c.begin.new.disk) c.in-Err.ensures.fails.lengths)

pub returns-in-Ok-clause-lengths : goal.returns-in-Ok-clause-lengths
returns-in-Ok-clause-lengths g c =
    let start = g.D.Disk.state c.args.disk.now in
    let mid = g.D.Disk.state c.begin.new.disk in
    let end = g.D.Disk.state c.serve_on.new.disk in
    let b = c.in-Ok.ensures.begun in
    let writer = c.in-Ok.begun.writer in
    if_some start.content _ _
    (λ (held : List ℕ) begun. grows_served source_format c.args.limit b.input c.in-Ok.begun.input.window (g.S.Source.rest c.args.source.now) (g.S.Source.rest c.begin.new.source) b.following (λ n. longest_stored_entry * n) (λ size count few. omega (arith, few))
    b.begin start mid end (g.met.D.Disk.is_disk c.begin.new.disk) b.lengths held writer.session writer.entries writer.appender begun
    (λ count yet. reach_wider (writer.appender + longest_stored_entry * count + 1) (writer.appender + (longest_stored_entry * count + 1)) mid end (omega arith) (c.serve_on.ensures.lengths count yet)))
    b.begun

pub returns-in-Ok-clause-disk_cause : goal.returns-in-Ok-clause-disk_cause
returns-in-Ok-clause-disk_cause g c =
    later_call _ _ (g.D.Disk.state c.args.disk.now).faults (g.D.Disk.state c.begin.new.disk).faults (g.D.Disk.state c.serve_on.new.disk).faults c.in-Ok.ensures.disk_cause (λ fails. ⊎_elim (λ e. cc e) (λ e. cc e) fails)
    (blames_alike _ _ (g.D.Disk.state c.begin.new.disk).faults (g.D.Disk.state c.serve_on.new.disk).faults (λ e. c.kept.ensures ∙ ap kept_result e) (λ e. went_disk c.serve_on.result (sym c.kept.ensures ∙ e)) c.serve_on.ensures.disk_cause)

pub returns-in-Ok-clause-source_cause : goal.returns-in-Ok-clause-source_cause
returns-in-Ok-clause-source_cause g c =
    later_call _ _ (g.S.Source.faults c.args.source.now) (g.S.Source.faults c.begin.new.source) (g.S.Source.faults c.serve_on.new.source) c.in-Ok.ensures.source_cause (λ e. cc e)
    (blames_alike _ _ (g.S.Source.faults c.begin.new.source) (g.S.Source.faults c.serve_on.new.source) (λ e. c.kept.ensures ∙ ap kept_result e) (λ e. went_read c.serve_on.result (sym c.kept.ensures ∙ e)) c.serve_on.ensures.source_cause)

pub returns-in-Ok-clause-out_cause : goal.returns-in-Ok-clause-out_cause
returns-in-Ok-clause-out_cause g c =
    blames_alike _ _ (g.K.Sink.faults c.args.out.now) (g.K.Sink.faults c.serve_on.new.out) (λ e. c.kept.ensures ∙ ap kept_result e) (λ e. went_write c.serve_on.result (sym c.kept.ensures ∙ e)) c.serve_on.ensures.out_cause
