use Rattle.journal_keeping.specs.Outputs.{output}
use Rattle.journal_keeping.proofs.Gaining.{gains_one, gains_cut}
use Rattle.journal_keeping.proofs.taking.keep_entry.Goals as goal

pub returns-in-Ok-write-clause-gained : goal.returns-in-Ok-write-clause-gained
returns-in-Ok-write-clause-gained g c =
    gains_one ⊥ (output g.K.Sink.held g.K.Sink.calls g.K.Sink.faults c.args.out.now) (output g.K.Sink.held g.K.Sink.calls g.K.Sink.faults c.write.new.self) c.args.text.now c.in-Ok-write.ensures.called c.in-Ok-write.ensures.written

pub returns-in-Err-write-clause-cut : goal.returns-in-Err-write-clause-cut
returns-in-Err-write-clause-cut g c = λ is.
    gains_cut (output g.K.Sink.held g.K.Sink.calls g.K.Sink.faults c.args.out.now) (output g.K.Sink.held g.K.Sink.calls g.K.Sink.faults c.write.new.self) c.args.text.now c.in-Err-write.ensures.called c.in-Err-write.ensures.cut
