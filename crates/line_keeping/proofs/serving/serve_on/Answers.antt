use Rattle.std.proofs.Common.{◌+◌, length, refl, ap, subst, ◌∙◌, arith}
use Rattle.flow_io.specs.Windows.{WindowState}
use Rattle.journal_disk.proofs.Lengths.{reach_none, reach_wider}
use Rattle.file_units.proofs.Gone.{went_well}
use Rattle.input_lines.specs.Finding.{FindsNext}
use Rattle.input_lines.specs.declared.lines.Next.{Next}
use Rattle.journal_keeping.specs.Outputs.{output}
use Rattle.line_keeping.proofs.Going.{gone_none}
use Rattle.line_keeping.proofs.Turning.{few_lines, still_kept, line_turn, long_turn, end_turn, limit_turn, read_turn, line_broken, long_broken, last_found, last_broken, last_long, last_long_broken}
use Rattle.line_keeping.proofs.Reaching.{reach_end, reach_line, reaches_more, reaches_on, line_size}
use Rattle.line_keeping.proofs.serving.serve_on.Goals as goal

pub lines-init : goal.lines-init
lines-init g c = (
  rw c.requires.first (gone_none c.args.window.now (g.S.Source.rest c.args.source.now) c.args.desk.now.writer.session c.args.desk.now.entries c.args.desk.now.writer.appender (g.D.Disk.state c.args.disk.now) (output g.K.Sink.held g.K.Sink.calls g.K.Sink.faults c.args.out.now)
      c.args.desk.now.entries c.args.desk.now.writer.appender c.requires.open (g.met.D.Disk.is_disk c.args.disk.now) refl refl c.requires.ready.orders c.requires.ready.counted c.requires.ready.few c.requires.few),
  c.requires.ready.text,
  refl,
  refl,
  refl,
  (omega arith, reach_none _ (g.D.Disk.state c.args.disk.now) (g.met.D.Disk.is_disk c.args.disk.now)),
)

pub returns-in-Err-clause-goes : goal.returns-in-Err-clause-goes
returns-in-Err-clause-goes g c = read_turn c.args.window.now (g.S.Source.rest c.args.source.now) c.args.desk.now.writer.session c.args.desk.now.entries c.args.desk.now.writer.appender (g.D.Disk.state c.args.disk.now) (output g.K.Sink.held g.K.Sink.calls g.K.Sink.faults c.args.out.now) c.lines.window (g.S.Source.rest c.lines.source) c.lines.desk.writer.session c.lines.desk.entries c.lines.desk.writer.appender c.lines.desk.lines (g.D.Disk.state c.lines.disk) (output g.K.Sink.held g.K.Sink.calls g.K.Sink.faults c.lines.out) c.lines.invariant.0 (g.S.Source.rest c.next_line.new.source) c.in-Err.ensures.none

pub answer_line-requires-clause-few : goal.answer_line-requires-clause-few
answer_line-requires-clause-few g c = few_lines c.args.window.now (g.S.Source.rest c.args.source.now) c.args.desk.now.writer.session c.args.desk.now.entries c.args.desk.now.writer.appender (g.D.Disk.state c.args.disk.now) (output g.K.Sink.held g.K.Sink.calls g.K.Sink.faults c.args.out.now) c.lines.window (g.S.Source.rest c.lines.source) c.lines.desk.writer.session c.lines.desk.entries c.lines.desk.writer.appender c.lines.desk.lines (g.D.Disk.state c.lines.disk) (output g.K.Sink.held g.K.Sink.calls g.K.Sink.faults c.lines.out) c.lines.invariant.0 c.requires.few

pub answer_line-requires-clause-kept : goal.answer_line-requires-clause-kept
answer_line-requires-clause-kept g c = still_kept c.args.window.now (g.S.Source.rest c.args.source.now) c.args.desk.now.writer.session c.args.desk.now.entries c.args.desk.now.writer.appender (g.D.Disk.state c.args.disk.now) (output g.K.Sink.held g.K.Sink.calls g.K.Sink.faults c.args.out.now) c.lines.window (g.S.Source.rest c.lines.source) c.lines.desk.writer.session c.lines.desk.entries c.lines.desk.writer.appender c.lines.desk.lines (g.D.Disk.state c.lines.disk) (output g.K.Sink.held g.K.Sink.calls g.K.Sink.faults c.lines.out) c.lines.invariant.0 c.requires.kept

pub answer_long-requires-clause-few : goal.answer_long-requires-clause-few
answer_long-requires-clause-few g c = few_lines c.args.window.now (g.S.Source.rest c.args.source.now) c.args.desk.now.writer.session c.args.desk.now.entries c.args.desk.now.writer.appender (g.D.Disk.state c.args.disk.now) (output g.K.Sink.held g.K.Sink.calls g.K.Sink.faults c.args.out.now) c.lines.window (g.S.Source.rest c.lines.source) c.lines.desk.writer.session c.lines.desk.entries c.lines.desk.writer.appender c.lines.desk.lines (g.D.Disk.state c.lines.disk) (output g.K.Sink.held g.K.Sink.calls g.K.Sink.faults c.lines.out) c.lines.invariant.0 c.requires.few

pub answer_line-requires-in-Last-clause-few : goal.answer_line-requires-in-Last-clause-few
answer_line-requires-in-Last-clause-few g c = few_lines c.args.window.now (g.S.Source.rest c.args.source.now) c.args.desk.now.writer.session c.args.desk.now.entries c.args.desk.now.writer.appender (g.D.Disk.state c.args.disk.now) (output g.K.Sink.held g.K.Sink.calls g.K.Sink.faults c.args.out.now) c.lines.window (g.S.Source.rest c.lines.source) c.lines.desk.writer.session c.lines.desk.entries c.lines.desk.writer.appender c.lines.desk.lines (g.D.Disk.state c.lines.disk) (output g.K.Sink.held g.K.Sink.calls g.K.Sink.faults c.lines.out) c.lines.invariant.0 c.requires.few

pub answer_line-requires-in-Last-clause-kept : goal.answer_line-requires-in-Last-clause-kept
answer_line-requires-in-Last-clause-kept g c = still_kept c.args.window.now (g.S.Source.rest c.args.source.now) c.args.desk.now.writer.session c.args.desk.now.entries c.args.desk.now.writer.appender (g.D.Disk.state c.args.disk.now) (output g.K.Sink.held g.K.Sink.calls g.K.Sink.faults c.args.out.now) c.lines.window (g.S.Source.rest c.lines.source) c.lines.desk.writer.session c.lines.desk.entries c.lines.desk.writer.appender c.lines.desk.lines (g.D.Disk.state c.lines.disk) (output g.K.Sink.held g.K.Sink.calls g.K.Sink.faults c.lines.out) c.lines.invariant.0 c.requires.kept

pub answer_long-requires-in-LongLast-clause-few : goal.answer_long-requires-in-LongLast-clause-few
answer_long-requires-in-LongLast-clause-few g c = few_lines c.args.window.now (g.S.Source.rest c.args.source.now) c.args.desk.now.writer.session c.args.desk.now.entries c.args.desk.now.writer.appender (g.D.Disk.state c.args.disk.now) (output g.K.Sink.held g.K.Sink.calls g.K.Sink.faults c.args.out.now) c.lines.window (g.S.Source.rest c.lines.source) c.lines.desk.writer.session c.lines.desk.entries c.lines.desk.writer.appender c.lines.desk.lines (g.D.Disk.state c.lines.disk) (output g.K.Sink.held g.K.Sink.calls g.K.Sink.faults c.lines.out) c.lines.invariant.0 c.requires.few

pub lines-preserved-in-Line : goal.lines-preserved-in-Line
lines-preserved-in-Line g c = (
  rw c.in-Ok-answer_line.ensures.counted (line_turn c.args.window.now (g.S.Source.rest c.args.source.now) c.args.desk.now.writer.session c.args.desk.now.entries c.args.desk.now.writer.appender (g.D.Disk.state c.args.disk.now) (output g.K.Sink.held g.K.Sink.calls g.K.Sink.faults c.args.out.now) c.lines.window (g.S.Source.rest c.lines.source) c.lines.desk.writer.session c.lines.desk.entries c.lines.desk.writer.appender c.lines.desk.lines (g.D.Disk.state c.lines.disk) (output g.K.Sink.held g.K.Sink.calls g.K.Sink.faults c.lines.out) c.lines.invariant.0 c.next_line.new.window c.advance.new.self (g.S.Source.rest c.next_line.new.source) c.in-Line.size c.held.result.now c.held.ensures.held (subst (λ (n : Next). FindsNext c.lines.window c.next_line.new.window (g.S.Source.rest c.lines.source) (g.S.Source.rest c.next_line.new.source) n) c.in-Line.is c.in-Ok.ensures.finds) c.advance.ensures
      c.answer_line.new.self.writer.session c.answer_line.new.self.entries c.answer_line.new.self.writer.appender (g.D.Disk.state c.answer_line.new.disk) (output g.K.Sink.held g.K.Sink.calls g.K.Sink.faults c.answer_line.new.out) c.in-Ok-answer_line.ensures.answers),
  c.in-Ok-answer_line.ensures.room,
  c.in-Ok-answer_line.ensures.disk_cause.quiet (λ is. cc is) ∙ c.lines.invariant.2,
  c.in-Ok-answer_line.ensures.out_cause.quiet (λ is. cc is) ∙ c.lines.invariant.3,
  c.in-Ok.ensures.cause.quiet went_well ∙ c.lines.invariant.4,
  (let f = (subst (λ (n : Next). FindsNext c.lines.window c.next_line.new.window (g.S.Source.rest c.lines.source) (g.S.Source.rest c.next_line.new.source) n) c.in-Line.is c.in-Ok.ensures.finds) in
      let answers = c.in-Ok-answer_line.ensures.answers in
      let size = line_size c.lines.window c.next_line.new.window (g.S.Source.rest c.lines.source) (g.S.Source.rest c.next_line.new.source) c.in-Line.size c.held.result.now c.held.ensures.held f in
      reaches_more c.args.window.now (g.S.Source.rest c.args.source.now) c.args.desk.now.writer.session c.args.desk.now.entries c.args.desk.now.writer.appender (g.D.Disk.state c.args.disk.now) (output g.K.Sink.held g.K.Sink.calls g.K.Sink.faults c.args.out.now) c.lines.window (g.S.Source.rest c.lines.source) c.lines.desk.writer.session c.lines.desk.entries c.lines.desk.writer.appender c.lines.desk.lines (g.D.Disk.state c.lines.disk) (output g.K.Sink.held g.K.Sink.calls g.K.Sink.faults c.lines.out) c.lines.invariant.0 c.lines.invariant.5 c.advance.new.self c.in-Line.size c.answer_line.new.self.writer.appender (length answers.pairs) (g.D.Disk.state c.answer_line.new.disk) (g.met.D.Disk.is_disk c.lines.disk)
      (omega (arith, ap (λ (w : WindowState). w.place) c.advance.ensures, f.is.1)) answers.place.1 (omega (arith, answers.size, size))
      (reach_wider _ _ (g.D.Disk.state c.lines.disk) (g.D.Disk.state c.answer_line.new.disk) (omega (arith, size)) c.in-Ok-answer_line.ensures.lengths)),
)

pub lines-preserved : goal.lines-preserved
lines-preserved g c = (
  rw (c.in-Ok-answer_long.ensures.same.0, c.in-Ok-answer_long.ensures.same.1, c.in-Ok-answer_long.ensures.same.2) (long_turn c.args.window.now (g.S.Source.rest c.args.source.now) c.args.desk.now.writer.session c.args.desk.now.entries c.args.desk.now.writer.appender (g.D.Disk.state c.args.disk.now) (output g.K.Sink.held g.K.Sink.calls g.K.Sink.faults c.args.out.now) c.lines.window (g.S.Source.rest c.lines.source) c.lines.desk.writer.session c.lines.desk.entries c.lines.desk.writer.appender c.lines.desk.lines (g.D.Disk.state c.lines.disk) (output g.K.Sink.held g.K.Sink.calls g.K.Sink.faults c.lines.out) c.lines.invariant.0 c.next_line.new.window (g.S.Source.rest c.next_line.new.source) (g.met.D.Disk.is_disk c.lines.disk) (subst (λ (n : Next). FindsNext c.lines.window c.next_line.new.window (g.S.Source.rest c.lines.source) (g.S.Source.rest c.next_line.new.source) n) c.in-Long.is c.in-Ok.ensures.finds) (output g.K.Sink.held g.K.Sink.calls g.K.Sink.faults c.answer_long.new.out) c.in-Ok-answer_long.ensures.refuses),
  c.in-Ok-answer_long.ensures.room,
  c.lines.invariant.2,
  c.in-Ok-answer_long.ensures.out_cause.quiet (λ is. cc is) ∙ c.lines.invariant.3,
  c.in-Ok.ensures.cause.quiet went_well ∙ c.lines.invariant.4,
  (let f = (subst (λ (n : Next). FindsNext c.lines.window c.next_line.new.window (g.S.Source.rest c.lines.source) (g.S.Source.rest c.next_line.new.source) n) c.in-Long.is c.in-Ok.ensures.finds) in rw c.in-Ok-answer_long.ensures.same.0 (reaches_on c.args.window.now (g.S.Source.rest c.args.source.now) c.args.desk.now.writer.session c.args.desk.now.entries c.args.desk.now.writer.appender (g.D.Disk.state c.args.disk.now) (output g.K.Sink.held g.K.Sink.calls g.K.Sink.faults c.args.out.now) c.lines.window (g.S.Source.rest c.lines.source) c.lines.desk.writer.session c.lines.desk.entries c.lines.desk.writer.appender c.lines.desk.lines (g.D.Disk.state c.lines.disk) (output g.K.Sink.held g.K.Sink.calls g.K.Sink.faults c.lines.out) c.lines.invariant.0 c.lines.invariant.5 c.next_line.new.window (length f.is.0 + 1) f.is.4)),
)

pub returns-in-End-clause-goes : goal.returns-in-End-clause-goes
returns-in-End-clause-goes g c = end_turn c.args.window.now (g.S.Source.rest c.args.source.now) c.args.desk.now.writer.session c.args.desk.now.entries c.args.desk.now.writer.appender (g.D.Disk.state c.args.disk.now) (output g.K.Sink.held g.K.Sink.calls g.K.Sink.faults c.args.out.now) c.lines.window (g.S.Source.rest c.lines.source) c.lines.desk.writer.session c.lines.desk.entries c.lines.desk.writer.appender c.lines.desk.lines (g.D.Disk.state c.lines.disk) (output g.K.Sink.held g.K.Sink.calls g.K.Sink.faults c.lines.out) c.lines.invariant.0 c.next_line.new.window (g.S.Source.rest c.next_line.new.source) (subst (λ (n : Next). FindsNext c.lines.window c.next_line.new.window (g.S.Source.rest c.lines.source) (g.S.Source.rest c.next_line.new.source) n) c.in-End.is c.in-Ok.ensures.finds)

pub returns-in-Limit-clause-goes : goal.returns-in-Limit-clause-goes
returns-in-Limit-clause-goes g c = limit_turn c.args.window.now (g.S.Source.rest c.args.source.now) c.args.desk.now.writer.session c.args.desk.now.entries c.args.desk.now.writer.appender (g.D.Disk.state c.args.disk.now) (output g.K.Sink.held g.K.Sink.calls g.K.Sink.faults c.args.out.now) c.lines.window (g.S.Source.rest c.lines.source) c.lines.desk.writer.session c.lines.desk.entries c.lines.desk.writer.appender c.lines.desk.lines (g.D.Disk.state c.lines.disk) (output g.K.Sink.held g.K.Sink.calls g.K.Sink.faults c.lines.out) c.lines.invariant.0 c.next_line.new.window (g.S.Source.rest c.next_line.new.source) (subst (λ (n : Next). FindsNext c.lines.window c.next_line.new.window (g.S.Source.rest c.lines.source) (g.S.Source.rest c.next_line.new.source) n) c.in-Limit.is c.in-Ok.ensures.finds)

pub returns-in-Err-answer_line-clause-goes : goal.returns-in-Err-answer_line-clause-goes
returns-in-Err-answer_line-clause-goes g c = line_broken c.args.window.now (g.S.Source.rest c.args.source.now) c.args.desk.now.writer.session c.args.desk.now.entries c.args.desk.now.writer.appender (g.D.Disk.state c.args.disk.now) (output g.K.Sink.held g.K.Sink.calls g.K.Sink.faults c.args.out.now) c.lines.window (g.S.Source.rest c.lines.source) c.lines.desk.writer.session c.lines.desk.entries c.lines.desk.writer.appender c.lines.desk.lines (g.D.Disk.state c.lines.disk) (output g.K.Sink.held g.K.Sink.calls g.K.Sink.faults c.lines.out) c.lines.invariant.0 c.next_line.new.window (g.S.Source.rest c.next_line.new.source) c.in-Line.size c.held.result.now c.held.ensures.held c.held.ensures.few (subst (λ (n : Next). FindsNext c.lines.window c.next_line.new.window (g.S.Source.rest c.lines.source) (g.S.Source.rest c.next_line.new.source) n) c.in-Line.is c.in-Ok.ensures.finds) (g.D.Disk.state c.answer_line.new.disk) (output g.K.Sink.held g.K.Sink.calls g.K.Sink.faults c.answer_line.new.out) c.in-Err-answer_line.fault c.in-Err-answer_line.ensures.broken

pub returns-in-Err-answer_long-clause-goes : goal.returns-in-Err-answer_long-clause-goes
returns-in-Err-answer_long-clause-goes g c = long_broken c.args.window.now (g.S.Source.rest c.args.source.now) c.args.desk.now.writer.session c.args.desk.now.entries c.args.desk.now.writer.appender (g.D.Disk.state c.args.disk.now) (output g.K.Sink.held g.K.Sink.calls g.K.Sink.faults c.args.out.now) c.lines.window (g.S.Source.rest c.lines.source) c.lines.desk.writer.session c.lines.desk.entries c.lines.desk.writer.appender c.lines.desk.lines (g.D.Disk.state c.lines.disk) (output g.K.Sink.held g.K.Sink.calls g.K.Sink.faults c.lines.out) c.lines.invariant.0 c.next_line.new.window (g.S.Source.rest c.next_line.new.source) c.held-held.result.now c.held-held.ensures.held c.held-held.ensures.few (g.met.D.Disk.is_disk c.lines.disk) (subst (λ (n : Next). FindsNext c.lines.window c.next_line.new.window (g.S.Source.rest c.lines.source) (g.S.Source.rest c.next_line.new.source) n) c.in-Long.is c.in-Ok.ensures.finds) (output g.K.Sink.held g.K.Sink.calls g.K.Sink.faults c.answer_long.new.out) c.in-Err-answer_long.ensures.refuses

pub returns-in-Ok-answer_line-2-clause-goes : goal.returns-in-Ok-answer_line-2-clause-goes
returns-in-Ok-answer_line-2-clause-goes g c = last_found c.args.window.now (g.S.Source.rest c.args.source.now) c.args.desk.now.writer.session c.args.desk.now.entries c.args.desk.now.writer.appender (g.D.Disk.state c.args.disk.now) (output g.K.Sink.held g.K.Sink.calls g.K.Sink.faults c.args.out.now) c.lines.window (g.S.Source.rest c.lines.source) c.lines.desk.writer.session c.lines.desk.entries c.lines.desk.writer.appender c.lines.desk.lines (g.D.Disk.state c.lines.disk) (output g.K.Sink.held g.K.Sink.calls g.K.Sink.faults c.lines.out) c.lines.invariant.0 c.next_line.new.window (g.S.Source.rest c.next_line.new.source) c.held-in-Last.result.now c.held-in-Last.ensures.held (subst (λ (n : Next). FindsNext c.lines.window c.next_line.new.window (g.S.Source.rest c.lines.source) (g.S.Source.rest c.next_line.new.source) n) c.in-Last.is c.in-Ok.ensures.finds) (g.D.Disk.state c.answer_line-in-Last.new.disk) (output g.K.Sink.held g.K.Sink.calls g.K.Sink.faults c.answer_line-in-Last.new.out) c.answer_line-in-Last.new.self.writer.session c.answer_line-in-Last.new.self.entries c.answer_line-in-Last.new.self.writer.appender c.in-Ok-answer_line-2.ensures.answers

pub returns-in-Err-answer_line-2-clause-goes : goal.returns-in-Err-answer_line-2-clause-goes
returns-in-Err-answer_line-2-clause-goes g c = last_broken c.args.window.now (g.S.Source.rest c.args.source.now) c.args.desk.now.writer.session c.args.desk.now.entries c.args.desk.now.writer.appender (g.D.Disk.state c.args.disk.now) (output g.K.Sink.held g.K.Sink.calls g.K.Sink.faults c.args.out.now) c.lines.window (g.S.Source.rest c.lines.source) c.lines.desk.writer.session c.lines.desk.entries c.lines.desk.writer.appender c.lines.desk.lines (g.D.Disk.state c.lines.disk) (output g.K.Sink.held g.K.Sink.calls g.K.Sink.faults c.lines.out) c.lines.invariant.0 c.next_line.new.window (g.S.Source.rest c.next_line.new.source) c.held-in-Last.result.now c.held-in-Last.ensures.held (subst (λ (n : Next). FindsNext c.lines.window c.next_line.new.window (g.S.Source.rest c.lines.source) (g.S.Source.rest c.next_line.new.source) n) c.in-Last.is c.in-Ok.ensures.finds) (g.D.Disk.state c.answer_line-in-Last.new.disk) (output g.K.Sink.held g.K.Sink.calls g.K.Sink.faults c.answer_line-in-Last.new.out) c.in-Err-answer_line-2.fault c.in-Err-answer_line-2.ensures.broken

pub returns-in-Ok-answer_long-2-clause-goes : goal.returns-in-Ok-answer_long-2-clause-goes
returns-in-Ok-answer_long-2-clause-goes g c = last_long c.args.window.now (g.S.Source.rest c.args.source.now) c.args.desk.now.writer.session c.args.desk.now.entries c.args.desk.now.writer.appender (g.D.Disk.state c.args.disk.now) (output g.K.Sink.held g.K.Sink.calls g.K.Sink.faults c.args.out.now) c.lines.window (g.S.Source.rest c.lines.source) c.lines.desk.writer.session c.lines.desk.entries c.lines.desk.writer.appender c.lines.desk.lines (g.D.Disk.state c.lines.disk) (output g.K.Sink.held g.K.Sink.calls g.K.Sink.faults c.lines.out) c.lines.invariant.0 c.next_line.new.window (g.S.Source.rest c.next_line.new.source) (g.met.D.Disk.is_disk c.lines.disk) (subst (λ (n : Next). FindsNext c.lines.window c.next_line.new.window (g.S.Source.rest c.lines.source) (g.S.Source.rest c.next_line.new.source) n) c.in-LongLast.is c.in-Ok.ensures.finds) (output g.K.Sink.held g.K.Sink.calls g.K.Sink.faults c.answer_long-in-LongLast.new.out) c.in-Ok-answer_long-2.ensures.refuses

pub returns-in-Err-answer_long-2-clause-goes : goal.returns-in-Err-answer_long-2-clause-goes
returns-in-Err-answer_long-2-clause-goes g c = last_long_broken c.args.window.now (g.S.Source.rest c.args.source.now) c.args.desk.now.writer.session c.args.desk.now.entries c.args.desk.now.writer.appender (g.D.Disk.state c.args.disk.now) (output g.K.Sink.held g.K.Sink.calls g.K.Sink.faults c.args.out.now) c.lines.window (g.S.Source.rest c.lines.source) c.lines.desk.writer.session c.lines.desk.entries c.lines.desk.writer.appender c.lines.desk.lines (g.D.Disk.state c.lines.disk) (output g.K.Sink.held g.K.Sink.calls g.K.Sink.faults c.lines.out) c.lines.invariant.0 c.next_line.new.window (g.S.Source.rest c.next_line.new.source) (g.met.D.Disk.is_disk c.lines.disk) (subst (λ (n : Next). FindsNext c.lines.window c.next_line.new.window (g.S.Source.rest c.lines.source) (g.S.Source.rest c.next_line.new.source) n) c.in-LongLast.is c.in-Ok.ensures.finds) (output g.K.Sink.held g.K.Sink.calls g.K.Sink.faults c.answer_long-in-LongLast.new.out) c.in-Err-answer_long-2.ensures.refuses

pub returns-in-Err-clause-lengths : goal.returns-in-Err-clause-lengths
returns-in-Err-clause-lengths g c = λ count yet. reach_end c.args.window.now (g.S.Source.rest c.args.source.now) c.args.desk.now.writer.session c.args.desk.now.entries c.args.desk.now.writer.appender (g.D.Disk.state c.args.disk.now) (output g.K.Sink.held g.K.Sink.calls g.K.Sink.faults c.args.out.now) c.lines.window (g.S.Source.rest c.lines.source) c.lines.desk.writer.session c.lines.desk.entries c.lines.desk.writer.appender c.lines.desk.lines (g.D.Disk.state c.lines.disk) (output g.K.Sink.held g.K.Sink.calls g.K.Sink.faults c.lines.out) c.lines.invariant.0 c.lines.invariant.5 count yet

pub returns-in-Err-answer_long-clause-lengths : goal.returns-in-Err-answer_long-clause-lengths
returns-in-Err-answer_long-clause-lengths g c = λ count yet. reach_end c.args.window.now (g.S.Source.rest c.args.source.now) c.args.desk.now.writer.session c.args.desk.now.entries c.args.desk.now.writer.appender (g.D.Disk.state c.args.disk.now) (output g.K.Sink.held g.K.Sink.calls g.K.Sink.faults c.args.out.now) c.lines.window (g.S.Source.rest c.lines.source) c.lines.desk.writer.session c.lines.desk.entries c.lines.desk.writer.appender c.lines.desk.lines (g.D.Disk.state c.lines.disk) (output g.K.Sink.held g.K.Sink.calls g.K.Sink.faults c.lines.out) c.lines.invariant.0 c.lines.invariant.5 count yet

pub returns-in-Ok-answer_long-2-clause-lengths : goal.returns-in-Ok-answer_long-2-clause-lengths
returns-in-Ok-answer_long-2-clause-lengths g c = λ count yet. reach_end c.args.window.now (g.S.Source.rest c.args.source.now) c.args.desk.now.writer.session c.args.desk.now.entries c.args.desk.now.writer.appender (g.D.Disk.state c.args.disk.now) (output g.K.Sink.held g.K.Sink.calls g.K.Sink.faults c.args.out.now) c.lines.window (g.S.Source.rest c.lines.source) c.lines.desk.writer.session c.lines.desk.entries c.lines.desk.writer.appender c.lines.desk.lines (g.D.Disk.state c.lines.disk) (output g.K.Sink.held g.K.Sink.calls g.K.Sink.faults c.lines.out) c.lines.invariant.0 c.lines.invariant.5 count yet

pub returns-in-Err-answer_long-2-clause-lengths : goal.returns-in-Err-answer_long-2-clause-lengths
returns-in-Err-answer_long-2-clause-lengths g c = λ count yet. reach_end c.args.window.now (g.S.Source.rest c.args.source.now) c.args.desk.now.writer.session c.args.desk.now.entries c.args.desk.now.writer.appender (g.D.Disk.state c.args.disk.now) (output g.K.Sink.held g.K.Sink.calls g.K.Sink.faults c.args.out.now) c.lines.window (g.S.Source.rest c.lines.source) c.lines.desk.writer.session c.lines.desk.entries c.lines.desk.writer.appender c.lines.desk.lines (g.D.Disk.state c.lines.disk) (output g.K.Sink.held g.K.Sink.calls g.K.Sink.faults c.lines.out) c.lines.invariant.0 c.lines.invariant.5 count yet

pub returns-in-End-clause-lengths : goal.returns-in-End-clause-lengths
returns-in-End-clause-lengths g c = λ count yet. reach_end c.args.window.now (g.S.Source.rest c.args.source.now) c.args.desk.now.writer.session c.args.desk.now.entries c.args.desk.now.writer.appender (g.D.Disk.state c.args.disk.now) (output g.K.Sink.held g.K.Sink.calls g.K.Sink.faults c.args.out.now) c.lines.window (g.S.Source.rest c.lines.source) c.lines.desk.writer.session c.lines.desk.entries c.lines.desk.writer.appender c.lines.desk.lines (g.D.Disk.state c.lines.disk) (output g.K.Sink.held g.K.Sink.calls g.K.Sink.faults c.lines.out) c.lines.invariant.0 c.lines.invariant.5 count yet

pub returns-in-Limit-clause-lengths : goal.returns-in-Limit-clause-lengths
returns-in-Limit-clause-lengths g c = λ count yet. reach_end c.args.window.now (g.S.Source.rest c.args.source.now) c.args.desk.now.writer.session c.args.desk.now.entries c.args.desk.now.writer.appender (g.D.Disk.state c.args.disk.now) (output g.K.Sink.held g.K.Sink.calls g.K.Sink.faults c.args.out.now) c.lines.window (g.S.Source.rest c.lines.source) c.lines.desk.writer.session c.lines.desk.entries c.lines.desk.writer.appender c.lines.desk.lines (g.D.Disk.state c.lines.disk) (output g.K.Sink.held g.K.Sink.calls g.K.Sink.faults c.lines.out) c.lines.invariant.0 c.lines.invariant.5 count yet

pub returns-in-Err-answer_line-clause-lengths : goal.returns-in-Err-answer_line-clause-lengths
returns-in-Err-answer_line-clause-lengths g c = λ count yet.
    let f = (subst (λ (n : Next). FindsNext c.lines.window c.next_line.new.window (g.S.Source.rest c.lines.source) (g.S.Source.rest c.next_line.new.source) n) c.in-Line.is c.in-Ok.ensures.finds) in
    let size = line_size c.lines.window c.next_line.new.window (g.S.Source.rest c.lines.source) (g.S.Source.rest c.next_line.new.source) c.in-Line.size c.held.result.now c.held.ensures.held f in
    reach_line c.args.window.now (g.S.Source.rest c.args.source.now) c.args.desk.now.writer.session c.args.desk.now.entries c.args.desk.now.writer.appender (g.D.Disk.state c.args.disk.now) (output g.K.Sink.held g.K.Sink.calls g.K.Sink.faults c.args.out.now) c.lines.window (g.S.Source.rest c.lines.source) c.lines.desk.writer.session c.lines.desk.entries c.lines.desk.writer.appender c.lines.desk.lines (g.D.Disk.state c.lines.disk) (output g.K.Sink.held g.K.Sink.calls g.K.Sink.faults c.lines.out) c.lines.invariant.0 c.lines.invariant.5 count c.in-Line.size (g.S.Source.rest c.next_line.new.source) f.joined f.past (g.D.Disk.state c.answer_line.new.disk) f.is.6 f.takes (omega (arith, f.is.2)) f.within (g.met.D.Disk.is_disk c.lines.disk)
    (reach_wider _ _ (g.D.Disk.state c.lines.disk) (g.D.Disk.state c.answer_line.new.disk) (omega (arith, size)) c.in-Err-answer_line.ensures.lengths) yet

pub returns-in-Ok-answer_line-2-clause-lengths : goal.returns-in-Ok-answer_line-2-clause-lengths
returns-in-Ok-answer_line-2-clause-lengths g c = λ count yet.
    let f = (subst (λ (n : Next). FindsNext c.lines.window c.next_line.new.window (g.S.Source.rest c.lines.source) (g.S.Source.rest c.next_line.new.source) n) c.in-Last.is c.in-Ok.ensures.finds) in
    reach_line c.args.window.now (g.S.Source.rest c.args.source.now) c.args.desk.now.writer.session c.args.desk.now.entries c.args.desk.now.writer.appender (g.D.Disk.state c.args.disk.now) (output g.K.Sink.held g.K.Sink.calls g.K.Sink.faults c.args.out.now) c.lines.window (g.S.Source.rest c.lines.source) c.lines.desk.writer.session c.lines.desk.entries c.lines.desk.writer.appender c.lines.desk.lines (g.D.Disk.state c.lines.disk) (output g.K.Sink.held g.K.Sink.calls g.K.Sink.faults c.lines.out) c.lines.invariant.0 c.lines.invariant.5 count (length c.held-in-Last.result.now) (g.S.Source.rest c.next_line.new.source) f.joined f.past (g.D.Disk.state c.answer_line-in-Last.new.disk) f.is.5 f.takes (omega (arith, ap length (c.held-in-Last.ensures.held ∙ f.is.0))) f.within (g.met.D.Disk.is_disk c.lines.disk)
    c.in-Ok-answer_line-2.ensures.lengths yet

pub returns-in-Err-answer_line-2-clause-lengths : goal.returns-in-Err-answer_line-2-clause-lengths
returns-in-Err-answer_line-2-clause-lengths g c = λ count yet.
    let f = (subst (λ (n : Next). FindsNext c.lines.window c.next_line.new.window (g.S.Source.rest c.lines.source) (g.S.Source.rest c.next_line.new.source) n) c.in-Last.is c.in-Ok.ensures.finds) in
    reach_line c.args.window.now (g.S.Source.rest c.args.source.now) c.args.desk.now.writer.session c.args.desk.now.entries c.args.desk.now.writer.appender (g.D.Disk.state c.args.disk.now) (output g.K.Sink.held g.K.Sink.calls g.K.Sink.faults c.args.out.now) c.lines.window (g.S.Source.rest c.lines.source) c.lines.desk.writer.session c.lines.desk.entries c.lines.desk.writer.appender c.lines.desk.lines (g.D.Disk.state c.lines.disk) (output g.K.Sink.held g.K.Sink.calls g.K.Sink.faults c.lines.out) c.lines.invariant.0 c.lines.invariant.5 count (length c.held-in-Last.result.now) (g.S.Source.rest c.next_line.new.source) f.joined f.past (g.D.Disk.state c.answer_line-in-Last.new.disk) f.is.5 f.takes (omega (arith, ap length (c.held-in-Last.ensures.held ∙ f.is.0))) f.within (g.met.D.Disk.is_disk c.lines.disk)
    c.in-Err-answer_line-2.ensures.lengths yet
