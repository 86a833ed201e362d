use Rattle.std.proofs.Common.{Err, sym, subst, ◌∙◌}
use Rattle.flow_io.specs.Changes.{change}
use Rattle.journal_keeping.specs.declared.fault.KeepFault.TheVariants.{Memory}
use Rattle.journal_keeping.specs.Outputs.{output}
use Rattle.kept_exchange.specs.Keeping.{IsRefusal}
use Rattle.kept_exchange.proofs.AsStatus.{one_result, refused_by}
use Rattle.kept_exchange.proofs.Ends.{paced_as}
use Rattle.kept_exchange.proofs.Serving.{serves}
use Rattle.kept_exchange.proofs.top.flow_disk_limited.Goals as goal

pub returns-clause-serves : goal.returns-clause-serves
returns-clause-serves g c =
    let kept = c.keep-ended.ensures in
    let line = rw c.status_of-status.ensures at c.write_line.ensures.written in
    let prefix = rw c.status_of-status.ensures at c.write_line.ensures.cut in
    rw c.status_of-status.ensures (serves c.args.limit c.keep-ended.result (g.D.Disk.state c.args.disk.now) (g.D.Disk.state c.keep-ended.new.disk)
    (change g.S.Source.rest g.S.Source.faults c.args.source.now c.keep-ended.new.source)
    (output g.K.Sink.held g.K.Sink.calls g.K.Sink.faults c.args.out.now) (output g.K.Sink.held g.K.Sink.calls g.K.Sink.faults c.keep-ended.new.out)
    (change g.N.Sink.held g.N.Sink.faults c.args.notes.now c.write_line.new.notes) c.write_line.result
    kept.keeps (kept.comes, kept.paced, kept.allocates) kept.taken kept.disk_cause kept.source_cause kept.out_cause line prefix c.write_line.ensures.cause)

pub returns-clause-paced : goal.returns-clause-paced
returns-clause-paced g c =
    let kept = c.keep-ended.ensures in
    rw c.status_of-status.ensures (paced_as c.args.limit (g.D.Disk.state c.args.disk.now).content (g.D.Disk.state c.keep-ended.new.disk)
    (change g.S.Source.rest g.S.Source.faults c.args.source.now c.keep-ended.new.source)
    (output g.K.Sink.held g.K.Sink.calls g.K.Sink.faults c.args.out.now) (output g.K.Sink.held g.K.Sink.calls g.K.Sink.faults c.keep-ended.new.out) c.keep-ended.result (kept.comes, kept.paced, kept.allocates))

pub returns-clause-allocates : goal.returns-clause-allocates
returns-clause-allocates g c = λ e. c.keep-ended.ensures.allocates (one_result c.args.limit c.keep-ended.result (Err Memory) (sym c.status_of-status.ensures ∙ e))

pub returns-clause-idle : goal.returns-clause-idle
returns-clause-idle g c = λ refusal. c.keep-ended.ensures.unasked (refused_by c.args.limit c.keep-ended.result (subst IsRefusal c.status_of-status.ensures refusal))
