use Rattle.std.proofs.Common.{◌≡◌, ◌≤◌}
use Rattle.journal_keeping.specs.Outputs.{Gains, output}
use Rattle.desk_keeping.proofs.Writing.{between}
use Rattle.desk_keeping.proofs.host.Host.write_texts.Given as goal

abbrev pub invariant-loop-place : goal.invariant-loop-place
invariant-loop-place g l =
    Gains ⊥ (output g.K.Sink.held g.K.Sink.calls g.K.Sink.faults l.fn.out) (output g.K.Sink.held g.K.Sink.calls g.K.Sink.faults l.out) (between l.fn.self.session.talk.texts l.fn.self.written l.place)
    × (l.fn.self.written ≤ l.place)
    × (l.place ≤ l.fn.self.told)
    × (g.K.Sink.faults l.out ≡ g.K.Sink.faults l.fn.out)
