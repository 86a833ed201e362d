use Rattle.std.proofs.Common.{◌+◌, Err, refl, ap, ◌∙◌, arith, length}
use Rattle.canonical_journals.proofs.LawProofs.{steps_number_one}
use Rattle.journal_disk.proofs.Lengths.{reach_wider}
use Rattle.journal_keeping.specs.Lengths.{longest_stored_entry}
use Rattle.journal_keeping.specs.Outputs.{output}
use Rattle.journal_keeping.proofs.Turns.{is_whole, is_record_pair, same_bytes, keeps_one}
use Rattle.line_keeping.proofs.Keeping.{longest_entry, breaks_one}
use Rattle.line_keeping.proofs.answering.Desk.answer_command.Goals as goal

pub keep_entry-requires-clause-pair : goal.keep_entry-requires-clause-pair
keep_entry-requires-clause-pair g c =
    let s = c.in-Ok.ensures.served in
    is_whole s.0 c.deref.result.now s.1.fits (c.deref.ensures.value ∙ s.2)

pub returns-in-Ok-keep_entry-clause-answers : goal.returns-in-Ok-keep_entry-clause-answers
returns-in-Ok-keep_entry-clause-answers g c =
    let s = c.in-Ok.ensures.served in
    let e = c.in-Ok-keep_entry.ensures in
    record {
      pair = s.0;
      text = c.serve.new.self.text.items;
      served = s.1;
      report = s.3;
      keeps = rw (← c.in-Ok.ensures.appender) (keeps_one s.0 c.serve.new.self.writer.appender c.keep_entry.new.appender (g.D.Disk.state c.args.disk.now) (g.D.Disk.state c.keep_entry.new.disk) c.deref.result.now s.1.fits (c.deref.ensures.value ∙ s.2) (e.kept (λ is. cc is)) e.moments);
      told = e.told (λ is. cc is);
      place = omega (arith, e.place, c.in-Ok.ensures.appender, ap length (c.deref.ensures.value ∙ s.2));
      gained = rw c.deref-2.ensures.value at e.gained;
    }

pub returns-in-Ok-keep_entry-clause-orders : goal.returns-in-Ok-keep_entry-clause-orders
returns-in-Ok-keep_entry-clause-orders g c =
    let s = c.in-Ok.ensures.served in
    steps_number_one c.args.self.now.writer.session s.0.asked s.0.answer c.serve.new.self.writer.session s.1.step

pub returns-in-Ok-keep_entry-clause-lengths : goal.returns-in-Ok-keep_entry-clause-lengths
returns-in-Ok-keep_entry-clause-lengths g c =
    let s = c.in-Ok.ensures.served in
    reach_wider (c.serve.new.self.writer.appender + (6 + length c.deref.result.now)) (c.args.self.now.writer.appender + (longest_stored_entry + 1)) (g.D.Disk.state c.args.disk.now) (g.D.Disk.state c.keep_entry.new.disk)
    (omega (arith, c.in-Ok.ensures.appender, longest_entry s.0 s.1.fits, ap length (c.deref.ensures.value ∙ s.2))) c.keep_entry.ensures.lengths

pub returns-in-Err-keep_entry-clause-lengths : goal.returns-in-Err-keep_entry-clause-lengths
returns-in-Err-keep_entry-clause-lengths g c =
    let s = c.in-Ok.ensures.served in
    reach_wider (c.serve.new.self.writer.appender + (6 + length c.deref.result.now)) (c.args.self.now.writer.appender + (longest_stored_entry + 1)) (g.D.Disk.state c.args.disk.now) (g.D.Disk.state c.keep_entry.new.disk)
    (omega (arith, c.in-Ok.ensures.appender, longest_entry s.0 s.1.fits, ap length (c.deref.ensures.value ∙ s.2))) c.keep_entry.ensures.lengths

pub returns-in-Err-keep_entry-clause-broken : goal.returns-in-Err-keep_entry-clause-broken
returns-in-Err-keep_entry-clause-broken g c =
    let s = c.in-Ok.ensures.served in
    let same = c.in-Ok.ensures.appender in
    let e = c.in-Err-keep_entry.ensures in
    let bytes = c.deref.ensures.value ∙ s.2 in
    breaks_one _ c.args.self.now.writer.session c.serve.new.self.writer.session c.args.self.now.entries c.args.self.now.writer.appender c.keep_entry.new.appender (g.D.Disk.state c.args.disk.now) (g.D.Disk.state c.keep_entry.new.disk)
    (output g.K.Sink.held g.K.Sink.calls g.K.Sink.faults c.args.out.now) (output g.K.Sink.held g.K.Sink.calls g.K.Sink.faults c.keep_entry.new.out) _ s.0 c.serve.new.self.text.items c.in-Err-keep_entry.fault e.refused s.1 s.3
    (λ is. ap (output g.K.Sink.held g.K.Sink.calls g.K.Sink.faults) (e.unasked (ap Err is))) (λ head pairs keeps. e.moments head pairs _ (rw same keeps) (is_record_pair s.0 s.1.fits) (bytes ∙ same_bytes s.0))
    (λ is. rw (← same) (keeps_one s.0 c.serve.new.self.writer.appender c.keep_entry.new.appender (g.D.Disk.state c.args.disk.now) (g.D.Disk.state c.keep_entry.new.disk) c.deref.result.now s.1.fits bytes (e.kept (λ bad. cc (bad, is))) e.moments))
    (λ is. e.told (λ bad. cc (bad, is))) (λ is. rw c.deref-2.ensures.value at e.cut (ap Err is))
