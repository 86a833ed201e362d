use Rattle.std.proofs.Common.{◌≡◌, ◌≤◌, ◌+◌, ◌*◌, take, map, length}
use Rattle.std.specs.Prelude.{vec_capacity}
use Rattle.wire_records.specs.Views.{command_in}
use Rattle.journal_disk.specs.Lengths.{ReachesAtMost}
use Rattle.journal_keeping.specs.Outputs.{output}
use Rattle.line_keeping.specs.Private.{AnswersCommands}
use Rattle.line_keeping.proofs.answering.Desk.answer_commands.Given as goal
use Rattle.journal_keeping.specs.Lengths.{longest_stored_entry}

abbrev pub invariant-loop-command : goal.invariant-loop-command
invariant-loop-command g l =
    AnswersCommands (map command_in (take l.command-index l.commands)) l.fn.self.writer.session l.self.writer.session l.fn.self.entries l.self.entries l.fn.self.writer.appender l.self.writer.appender
    (g.D.Disk.state l.fn.disk) (g.D.Disk.state l.disk) (output g.K.Sink.held g.K.Sink.calls g.K.Sink.faults l.fn.out) (output g.K.Sink.held g.K.Sink.calls g.K.Sink.faults l.out)
    × (l.self.lines ≡ l.fn.self.lines)
    × (vec_capacity l.fn.self.text ≤ vec_capacity l.self.text)
    × ReachesAtMost (l.fn.self.writer.appender + (longest_stored_entry * length l.fn.commands + 1)) (g.D.Disk.state l.fn.disk) (g.D.Disk.state l.disk)
    × ((g.D.Disk.state l.disk).faults ≡ (g.D.Disk.state l.fn.disk).faults)
    × (g.K.Sink.faults l.out ≡ g.K.Sink.faults l.fn.out)
