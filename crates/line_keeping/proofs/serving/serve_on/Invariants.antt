use Rattle.std.proofs.Common.{◌≡◌, ◌-◌, ◌≤◌}
use Rattle.std.specs.Prelude.{vec_capacity}
use Rattle.journal_keeping.specs.Outputs.{output}
use Rattle.line_keeping.specs.Private.{HasGone, Reaches, refusal_room}
use Rattle.line_keeping.proofs.serving.serve_on.Given as goal

abbrev pub invariant-lines : goal.invariant-lines
invariant-lines g l =
    HasGone l.fn.window l.window (g.S.Source.rest l.fn.source) (g.S.Source.rest l.source) l.fn.desk.writer.session l.desk.writer.session l.fn.desk.entries l.desk.entries l.fn.desk.writer.appender l.desk.writer.appender l.desk.lines
    (g.D.Disk.state l.fn.disk) (g.D.Disk.state l.disk) (output g.K.Sink.held g.K.Sink.calls g.K.Sink.faults l.fn.out) (output g.K.Sink.held g.K.Sink.calls g.K.Sink.faults l.out)
    × (refusal_room ≤ vec_capacity l.desk.text)
    × ((g.D.Disk.state l.disk).faults ≡ (g.D.Disk.state l.fn.disk).faults)
    × (g.K.Sink.faults l.out ≡ g.K.Sink.faults l.fn.out)
    × (g.S.Source.faults l.source ≡ g.S.Source.faults l.fn.source)
    × Reaches l.fn.window l.window l.fn.desk.writer.appender l.desk.writer.appender (g.D.Disk.state l.fn.disk) (g.D.Disk.state l.disk)

abbrev pub decreases-lines : goal.decreases-lines
decreases-lines g l = l.window.limit - l.window.place
