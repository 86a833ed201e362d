use Rattle.std.proofs.Common.{◌≡◌, ◌+◌, ◌*◌, ◌++◌, ◌∷◌, [], List, length, take, drop, map, refl, sym, ap, subst, ◌∙◌, arith}
use Rattle.std.proofs.lemmas.List.{length-map, length-take-le, map-append, take_all}
use Rattle.wire_records.specs.Commands.{Command}
use Rattle.wire_records.specs.Views.{command_in}
use Rattle.wire_records.specs.declared.command.Command as owned
use Rattle.journal_disk.proofs.Lengths.{reach_none, reach_more, reach_wider}
use Rattle.journal_keeping.specs.Outputs.{output}
use Rattle.line_keeping.specs.Private.{AnswersCommands, BreaksCommands}
use Rattle.line_keeping.proofs.Keeping.{commands_none, commands_more, breaks_by, parted_at, ready_more}
use Rattle.line_keeping.proofs.answering.Desk.answer_commands.Goals as goal
use Rattle.journal_keeping.specs.Lengths.{longest_stored_entry}

pub loop-command-init : goal.loop-command-init
loop-command-init g c = (
  commands_none c.args.self.now.writer.session c.args.self.now.entries c.args.self.now.writer.appender (g.D.Disk.state c.args.disk.now) (output g.K.Sink.held g.K.Sink.calls g.K.Sink.faults c.args.out.now) (g.met.D.Disk.is_disk c.args.disk.now),
  refl,
  omega arith,
  reach_none _ (g.D.Disk.state c.args.disk.now) (g.met.D.Disk.is_disk c.args.disk.now),
  refl,
  refl,
)

pub loop-command-preserved : goal.loop-command-preserved
loop-command-preserved g c =
    let i = c.loop-command.invariant in
    let e = c.in-Ok.ensures in
    let k = c.loop-command.command-index in
    let parted = parted_at c.args.commands.now k c.command-item.result c.loop-command-test.true c.command-item.is in
    let done : map command_in (take (k + 1) c.args.commands.now) ≡ map command_in (take k c.args.commands.now) ++ command_in c.command-item.result ∷ [] =
    ap (λ (l : List owned.Command). map command_in l) parted.0 ∙ map-append command_in (take k c.args.commands.now) (c.command-item.result ∷ []) in
    let size : length i.0.pairs ≡ k = i.0.size ∙ length-map (take k c.args.commands.now) command_in ∙ length-take-le k c.args.commands.now (omega (arith, c.loop-command-test.true)) in (
      subst (λ (l : List Command). AnswersCommands l c.args.self.now.writer.session c.answer_command.new.self.writer.session c.args.self.now.entries c.answer_command.new.self.entries c.args.self.now.writer.appender c.answer_command.new.self.writer.appender
          (g.D.Disk.state c.args.disk.now) (g.D.Disk.state c.answer_command.new.disk) (output g.K.Sink.held g.K.Sink.calls g.K.Sink.faults c.args.out.now) (output g.K.Sink.held g.K.Sink.calls g.K.Sink.faults c.answer_command.new.out)) (sym done)
          (rw e.counted (commands_more c.args.self.now.writer.session c.args.self.now.entries c.args.self.now.writer.appender (g.D.Disk.state c.args.disk.now) (output g.K.Sink.held g.K.Sink.calls g.K.Sink.faults c.args.out.now)
          (map command_in (take k c.args.commands.now)) c.loop-command.self.writer.session c.loop-command.self.entries c.loop-command.self.writer.appender (g.D.Disk.state c.loop-command.disk) (output g.K.Sink.held g.K.Sink.calls g.K.Sink.faults c.loop-command.out) i.0 (command_in c.command-item.result)
          c.answer_command.new.self.writer.session c.answer_command.new.self.writer.appender (g.D.Disk.state c.answer_command.new.disk) (output g.K.Sink.held g.K.Sink.calls g.K.Sink.faults c.answer_command.new.out) e.answers e.orders)),
      e.lines ∙ i.1,
      omega (arith, i.2, e.room),
      reach_more _ (g.D.Disk.state c.args.disk.now) (g.D.Disk.state c.loop-command.disk) (g.D.Disk.state c.answer_command.new.disk) (g.met.D.Disk.is_disk c.loop-command.disk) i.3
          (reach_wider (c.loop-command.self.writer.appender + (longest_stored_entry + 1)) (c.args.self.now.writer.appender + (longest_stored_entry * length c.args.commands.now + 1)) (g.D.Disk.state c.loop-command.disk) (g.D.Disk.state c.answer_command.new.disk)
          (omega (arith, i.0.place.1, size, c.loop-command-test.true)) e.lengths),
      e.disk_cause.quiet (λ is. cc is) ∙ i.4,
      e.out_cause.quiet (λ is. cc is) ∙ i.5,
    )

pub answer_command-requires-clause-ready : goal.answer_command-requires-clause-ready
answer_command-requires-clause-ready g c =
    let i = c.loop-command.invariant in
    let k = c.loop-command.command-index in
    let size : length i.0.pairs ≡ k = i.0.size ∙ length-map (take k c.args.commands.now) command_in ∙ length-take-le k c.args.commands.now (omega (arith, c.loop-command-test.true)) in
    ready_more (length c.args.commands.now) (length i.0.pairs) c.loop-command.self.entries c.loop-command.self.writer.appender c.args.self.now.writer.session c.args.self.now.entries c.args.self.now.writer.appender c.loop-command.self.writer.session
    c.requires.ready.orders c.requires.ready.counted c.requires.ready.room (omega (arith, size, c.loop-command-test.true)) i.0.place.0 i.0.place.1 i.0.orders i.0.counted

pub answer_command-requires-clause-kept : goal.answer_command-requires-clause-kept
answer_command-requires-clause-kept g c = c.loop-command.invariant.0.stays c.requires.kept

pub returns-in-Err-clause-lengths : goal.returns-in-Err-clause-lengths
returns-in-Err-clause-lengths g c =
    let i = c.loop-command.invariant in
    let e = c.in-Err.ensures in
    let k = c.loop-command.command-index in
    let size : length i.0.pairs ≡ k = i.0.size ∙ length-map (take k c.args.commands.now) command_in ∙ length-take-le k c.args.commands.now (omega (arith, c.loop-command-test.true)) in
    reach_more _ (g.D.Disk.state c.args.disk.now) (g.D.Disk.state c.loop-command.disk) (g.D.Disk.state c.answer_command.new.disk) (g.met.D.Disk.is_disk c.loop-command.disk) i.3
    (reach_wider (c.loop-command.self.writer.appender + (longest_stored_entry + 1)) (c.args.self.now.writer.appender + (longest_stored_entry * length c.args.commands.now + 1)) (g.D.Disk.state c.loop-command.disk) (g.D.Disk.state c.answer_command.new.disk)
    (omega (arith, i.0.place.1, size, c.loop-command-test.true)) e.lengths)

pub returns-in-Err-clause-broken : goal.returns-in-Err-clause-broken
returns-in-Err-clause-broken g c =
    let i = c.loop-command.invariant in
    let e = c.in-Err.ensures in
    let k = c.loop-command.command-index in
    let parted = parted_at c.args.commands.now k c.command-item.result c.loop-command-test.true c.command-item.is in
    let all : map command_in c.args.commands.now ≡ map command_in (take k c.args.commands.now) ++ command_in c.command-item.result ∷ map command_in (drop (k + 1) c.args.commands.now) =
    ap (λ (l : List owned.Command). map command_in l) parted.1 ∙ map-append command_in (take k c.args.commands.now) (c.command-item.result ∷ drop (k + 1) c.args.commands.now) in
    subst (λ (l : List Command). BreaksCommands l c.args.self.now.writer.session c.args.self.now.entries c.args.self.now.writer.appender (g.D.Disk.state c.args.disk.now) (g.D.Disk.state c.answer_command.new.disk)
    (output g.K.Sink.held g.K.Sink.calls g.K.Sink.faults c.args.out.now) (output g.K.Sink.held g.K.Sink.calls g.K.Sink.faults c.answer_command.new.out) c.in-Err.fault) (sym all)
    (breaks_by g.D.Disk.state c.loop-command.disk c.answer_command.new.disk c.args.self.now.writer.session c.args.self.now.entries c.args.self.now.writer.appender (g.D.Disk.state c.args.disk.now) (output g.K.Sink.held g.K.Sink.calls g.K.Sink.faults c.args.out.now)
    (map command_in (take k c.args.commands.now)) c.loop-command.self.writer.session c.loop-command.self.entries c.loop-command.self.writer.appender c.answer_command.new.self.writer.appender
    (output g.K.Sink.held g.K.Sink.calls g.K.Sink.faults c.loop-command.out) (output g.K.Sink.held g.K.Sink.calls g.K.Sink.faults c.answer_command.new.out) i.0
    (command_in c.command-item.result) (map command_in (drop (k + 1) c.args.commands.now)) c.in-Err.fault (g.met.D.Disk.is_disk c.answer_command.new.disk) e.broken)

pub returns-clause-answers : goal.returns-clause-answers
returns-clause-answers g c =
    let all : take c.loop-command.command-index c.args.commands.now ≡ c.args.commands.now = take_all c.loop-command.command-index c.args.commands.now (omega (arith, c.loop-command-test.false)) in
    subst (λ (l : List owned.Command). AnswersCommands (map command_in l) c.args.self.now.writer.session c.loop-command.self.writer.session c.args.self.now.entries c.loop-command.self.entries c.args.self.now.writer.appender c.loop-command.self.writer.appender
    (g.D.Disk.state c.args.disk.now) (g.D.Disk.state c.loop-command.disk) (output g.K.Sink.held g.K.Sink.calls g.K.Sink.faults c.args.out.now) (output g.K.Sink.held g.K.Sink.calls g.K.Sink.faults c.loop-command.out)) all c.loop-command.invariant.0
