use Rattle.std.proofs.Common.{ℕ, List, ap}
use Rattle.journal_keeping.proofs.Counts.{if_some}
use Rattle.flow_io.specs.Changes.{change}
use Rattle.journal_keeping.specs.Outputs.{output}
use Rattle.kept_exchange.proofs.HostedLines.{hosts, hosts_again}
use Rattle.kept_exchange.proofs.hosting.flow_host_limited.Goals as goal

pub returns-clause-hosts : goal.returns-clause-hosts
returns-clause-hosts g c =
    let hosted = c.host_lines-ended.ensures in
    let refuses = if_some (g.D.Disk.state c.args.disk.now).content _ _ (λ (held : List ℕ) why no. let it = why no in (it.0, ap g.S.Source.rest it.1, ap (λ o. output g.K.Sink.held g.K.Sink.calls g.K.Sink.faults o) it.2)) hosted.refuses in
    let line = rw c.hosted_status-status.ensures at c.write_line.ensures.written in
    let prefix = rw c.hosted_status-status.ensures at c.write_line.ensures.cut in
    rw c.hosted_status-status.ensures (hosts c.args.limit c.host_lines-ended.result (g.D.Disk.state c.args.disk.now) (g.D.Disk.state c.host_lines-ended.new.disk)
    (change g.S.Source.rest g.S.Source.faults c.args.source.now c.host_lines-ended.new.source)
    (output g.K.Sink.held g.K.Sink.calls g.K.Sink.faults c.args.out.now) (output g.K.Sink.held g.K.Sink.calls g.K.Sink.faults c.host_lines-ended.new.out)
    (change g.N.Sink.held g.N.Sink.faults c.args.notes.now c.write_line.new.notes) c.write_line.result
    hosted.keeps hosted.comes refuses hosted.made hosted.taken hosted.disk_cause hosted.source_cause hosted.out_cause line prefix c.write_line.ensures.cause)

pub returns-clause-again : goal.returns-clause-again
returns-clause-again g c =
    λ was old market holds. hosts_again c.args.limit (g.S.Source.rest c.args.source.now) _ was (g.D.Disk.state c.args.disk.now) (g.D.Disk.state c.host_lines-ended.new.disk) old market
    (output g.K.Sink.held g.K.Sink.calls g.K.Sink.faults c.args.out.now) (output g.K.Sink.held g.K.Sink.calls g.K.Sink.faults c.host_lines-ended.new.out) holds (g.met.D.Disk.is_disk c.host_lines-ended.new.disk)
    (c.host_lines-ended.ensures.keeps was old market holds)
