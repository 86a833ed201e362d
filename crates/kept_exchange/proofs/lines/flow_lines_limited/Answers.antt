use Rattle.std.proofs.Common.{subst}
use Rattle.flow_io.specs.Changes.{change}
use Rattle.journal_keeping.specs.Outputs.{output}
use Rattle.kept_exchange.specs.Keeping.{IsRefusal}
use Rattle.kept_exchange.proofs.AsStatus.{refused_by}
use Rattle.kept_exchange.proofs.ServingLines.{serves}
use Rattle.kept_exchange.proofs.lines.flow_lines_limited.Goals as goal

pub returns-clause-serves : goal.returns-clause-serves
returns-clause-serves g c =
    let kept = c.serve_lines-ended.ensures in
    let line = rw c.status_of-status.ensures at c.write_line.ensures.written in
    let prefix = rw c.status_of-status.ensures at c.write_line.ensures.cut in
    rw c.status_of-status.ensures (serves c.args.limit c.serve_lines-ended.result (g.D.Disk.state c.args.disk.now) (g.D.Disk.state c.serve_lines-ended.new.disk)
    (change g.S.Source.rest g.S.Source.faults c.args.source.now c.serve_lines-ended.new.source)
    (output g.K.Sink.held g.K.Sink.calls g.K.Sink.faults c.args.out.now) (output g.K.Sink.held g.K.Sink.calls g.K.Sink.faults c.serve_lines-ended.new.out)
    (change g.N.Sink.held g.N.Sink.faults c.args.notes.now c.write_line.new.notes) c.write_line.result
    kept.keeps kept.comes kept.taken kept.left kept.disk_cause kept.source_cause kept.out_cause line prefix c.write_line.ensures.cause)

pub returns-clause-idle : goal.returns-clause-idle
returns-clause-idle g c = λ refusal. c.serve_lines-ended.ensures.unasked (refused_by c.args.limit c.serve_lines-ended.result (subst IsRefusal c.status_of-status.ensures refusal))
