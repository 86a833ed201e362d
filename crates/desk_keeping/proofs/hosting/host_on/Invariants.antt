use Rattle.std.proofs.Common.{◌≡◌, ◌-◌, ℕ, List, Option}
use Rattle.journal_keeping.specs.Outputs.{output}
use Rattle.desk_keeping.specs.Private.{IsHosting}
use Rattle.desk_keeping.proofs.hosting.host_on.Given as goal

abbrev pub invariant-lines : goal.invariant-lines
invariant-lines g l =
    ((was : g.row.D.Denot) (content : Option (List ℕ)) (first : g.row.K.Denot)
    → IsHosting l.fn.limit content (g.S.Source.rest l.fn.source) (g.D.Disk.state was) (g.D.Disk.state l.fn.disk) (output g.K.Sink.held g.K.Sink.calls g.K.Sink.faults first) (output g.K.Sink.held g.K.Sink.calls g.K.Sink.faults l.fn.out) l.fn.window l.fn.host
    → IsHosting l.fn.limit content (g.S.Source.rest l.source) (g.D.Disk.state was) (g.D.Disk.state l.disk) (output g.K.Sink.held g.K.Sink.calls g.K.Sink.faults first) (output g.K.Sink.held g.K.Sink.calls g.K.Sink.faults l.out) l.window l.host)
    × ((g.D.Disk.state l.disk).faults ≡ (g.D.Disk.state l.fn.disk).faults)
    × (g.K.Sink.faults l.out ≡ g.K.Sink.faults l.fn.out)
    × (g.S.Source.faults l.source ≡ g.S.Source.faults l.fn.source)

abbrev pub decreases-lines : goal.decreases-lines
decreases-lines g l = l.window.limit - l.window.place
