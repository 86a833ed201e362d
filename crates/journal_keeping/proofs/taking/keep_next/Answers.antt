use Rattle.std.proofs.Common.{◌≡◌, Err, ap, ◌∙◌}
use Rattle.journal_records.specs.Formats.{records_of}
use Rattle.journal_keeping.specs.Outputs.{output}
use Rattle.journal_keeping.proofs.Turns.{keeps_one}
use Rattle.journal_keeping.proofs.Next.{pair_of, fits, whole, two_records, their_bytes, takes, still_ready, still_within, still_reaches, breaks}
use Rattle.journal_keeping.proofs.taking.keep_next.Goals as goal

pub keep_entry-requires-clause-pair : goal.keep_entry-requires-clause-pair
keep_entry-requires-clause-pair g c =
    let one = rw c.in-Ok-Taken.field-0-is at c.in-Ok-Taken.ensures.taken in
    let ready = c.requires.ready in
    rw c.deref.ensures.value (whole c.in-Ok-Taken.taken c.args.bytes.now c.args.writer.now.session c.serve_next.new.self c.serve_next.new.out.items one ready.0 ready.1 ready.2.0)

pub returns-in-Ok-clause-taken : goal.returns-in-Ok-clause-taken
returns-in-Ok-clause-taken g c =
    let one = rw c.in-Ok-Taken.field-0-is at c.in-Ok-Taken.ensures.taken in
    let ready = c.requires.ready in
    let pair = pair_of c.in-Ok-Taken.taken c.args.bytes.now c.args.writer.now.session c.serve_next.new.self c.serve_next.new.out.items one ready.0 ready.1 ready.2.0 in
    let fitting = fits c.in-Ok-Taken.taken c.args.bytes.now c.args.writer.now.session c.serve_next.new.self c.serve_next.new.out.items one ready.0 ready.1 ready.2.0 in
    let encoded = c.deref.ensures.value ∙ one.step.encoded in
    takes c.in-Ok-Taken.taken c.args.bytes.now c.args.writer.now.session c.serve_next.new.self c.serve_next.new.out.items one ready.0 ready.1 ready.2.0 c.args.writer.now.appender c.keep_entry.new.appender (g.D.Disk.state c.args.disk.now) (g.D.Disk.state c.keep_entry.new.disk)
    (output g.K.Sink.held g.K.Sink.calls g.K.Sink.faults c.args.out.now) (output g.K.Sink.held g.K.Sink.calls g.K.Sink.faults c.keep_entry.new.out)
    (keeps_one pair c.args.writer.now.appender c.keep_entry.new.appender (g.D.Disk.state c.args.disk.now) (g.D.Disk.state c.keep_entry.new.disk) _ fitting encoded (c.in-Ok.ensures.kept (λ is. cc is)) c.in-Ok.ensures.moments)
    (c.in-Ok.ensures.told (λ is. cc is)) (rw c.deref-in-Ok-Taken.ensures.value at c.in-Ok.ensures.gained)

pub returns-in-Ok-clause-stays : goal.returns-in-Ok-clause-stays
returns-in-Ok-clause-stays g c = λ left inside ready.
    let one = rw c.in-Ok-Taken.field-0-is at c.in-Ok-Taken.ensures.taken in
    let stays = rw c.in-Ok-Taken.field-0-is at c.in-Ok-Taken.ensures.stays in
    (stays left inside ready.0, still_ready c.in-Ok-Taken.taken c.args.bytes.now c.args.writer.now.session c.serve_next.new.self c.serve_next.new.out.items one left inside ready.0 c.args.writer.now.appender c.keep_entry.new.appender ready.1 (rw c.deref.ensures.value at c.in-Ok.ensures.place))

pub returns-in-Err-keep_entry-clause-broken : goal.returns-in-Err-keep_entry-clause-broken
returns-in-Err-keep_entry-clause-broken g c =
    let one = rw c.in-Ok-Taken.field-0-is at c.in-Ok-Taken.ensures.taken in
    let ready = c.requires.ready in
    let pair = pair_of c.in-Ok-Taken.taken c.args.bytes.now c.args.writer.now.session c.serve_next.new.self c.serve_next.new.out.items one ready.0 ready.1 ready.2.0 in
    let two = two_records c.in-Ok-Taken.taken c.args.bytes.now c.args.writer.now.session c.serve_next.new.self c.serve_next.new.out.items one ready.0 ready.1 ready.2.0 in
    let bytes = c.deref.ensures.value ∙ their_bytes c.in-Ok-Taken.taken c.args.bytes.now c.args.writer.now.session c.serve_next.new.self c.serve_next.new.out.items one ready.0 ready.1 ready.2.0 in
    let fitting = fits c.in-Ok-Taken.taken c.args.bytes.now c.args.writer.now.session c.serve_next.new.self c.serve_next.new.out.items one ready.0 ready.1 ready.2.0 in
    let encoded = c.deref.ensures.value ∙ one.step.encoded in
    let kept = c.in-Err-keep_entry.ensures in
    breaks c.in-Ok-Taken.taken c.args.bytes.now c.args.writer.now.session c.serve_next.new.self c.serve_next.new.out.items one ready.0 ready.1 ready.2.0 c.args.writer.now.appender c.keep_entry.new.appender (g.D.Disk.state c.args.disk.now) (g.D.Disk.state c.keep_entry.new.disk)
    (output g.K.Sink.held g.K.Sink.calls g.K.Sink.faults c.args.out.now) (output g.K.Sink.held g.K.Sink.calls g.K.Sink.faults c.keep_entry.new.out)
    (c.keep_entry.new.disk ≡ c.args.disk.now) c.in-Err-keep_entry.fault kept.refused (λ is. ap (output g.K.Sink.held g.K.Sink.calls g.K.Sink.faults) (kept.unasked (ap Err is))) (λ version pairs at. kept.moments version pairs (records_of pair) at two bytes)
    (λ is. keeps_one pair c.args.writer.now.appender c.keep_entry.new.appender (g.D.Disk.state c.args.disk.now) (g.D.Disk.state c.keep_entry.new.disk) _ fitting encoded (kept.kept (λ bad. cc (bad, is))) kept.moments) (λ is. kept.told (λ bad. cc (bad, is))) (λ is. rw c.deref-in-Ok-Taken.ensures.value at kept.cut (ap Err is))

pub returns-in-Ok-clause-places : goal.returns-in-Ok-clause-places
returns-in-Ok-clause-places g c = λ left most fits room.
    let one = rw c.in-Ok-Taken.field-0-is at c.in-Ok-Taken.ensures.taken in
    let ready = c.requires.ready in
    still_within c.in-Ok-Taken.taken c.args.bytes.now c.args.writer.now.session c.serve_next.new.self c.serve_next.new.out.items one ready.0 ready.1 ready.2.0 c.args.writer.now.appender c.keep_entry.new.appender left most fits room (rw c.deref.ensures.value at c.in-Ok.ensures.place)

pub returns-in-Ok-clause-lengths : goal.returns-in-Ok-clause-lengths
returns-in-Ok-clause-lengths g c = λ left fits.
    let one = rw c.in-Ok-Taken.field-0-is at c.in-Ok-Taken.ensures.taken in
    let ready = c.requires.ready in
    still_reaches c.in-Ok-Taken.taken c.args.bytes.now c.args.writer.now.session c.serve_next.new.self c.serve_next.new.out.items one ready.0 ready.1 ready.2.0 c.args.writer.now.appender (g.D.Disk.state c.args.disk.now) (g.D.Disk.state c.keep_entry.new.disk) left fits (rw c.deref.ensures.value at c.keep_entry.ensures.lengths)

pub returns-in-Err-keep_entry-clause-lengths : goal.returns-in-Err-keep_entry-clause-lengths
returns-in-Err-keep_entry-clause-lengths g c = λ left fits.
    let one = rw c.in-Ok-Taken.field-0-is at c.in-Ok-Taken.ensures.taken in
    let ready = c.requires.ready in
    still_reaches c.in-Ok-Taken.taken c.args.bytes.now c.args.writer.now.session c.serve_next.new.self c.serve_next.new.out.items one ready.0 ready.1 ready.2.0 c.args.writer.now.appender (g.D.Disk.state c.args.disk.now) (g.D.Disk.state c.keep_entry.new.disk) left fits (rw c.deref.ensures.value at c.keep_entry.ensures.lengths)
