use Rattle.std.proofs.Common.{◌≤◌, ◌-◌, [], ◌∷◌, ◌++◌, Ok, Err, length, refl, ap, ◌∙◌, arith}
use Rattle.flow_io.specs.Windows.{WindowState}
use Rattle.wire_records.specs.Formats.{commands}
use Rattle.file_units.proofs.Gone.{went_well, fewer_than_room, within_limit, falls, none_gone, one_more_gone, read_gone, gone_overlong, gone_unread, gone_limited, gone_to_end, gone_torn, limit_reached}
use Rattle.file_units.specs.declared.units.Ending.TheVariants.{End, Torn, TooLong}
use Rattle.file_units.specs.declared.input.TakeFault.TheVariants.{Read}
use Rattle.journal_keeping.specs.Private.{IsReady, Adds, Names}
use Rattle.journal_keeping.specs.Outputs.{output}
use Rattle.journal_keeping.proofs.Turns.{one_fits, added_none}
use Rattle.journal_keeping.proofs.Adding.{added_together}
use Rattle.journal_keeping.proofs.Gaining.{gains_none}
use Rattle.journal_keeping.proofs.Ends.{told_more, serves_so, serves_broken}
use Rattle.journal_keeping.proofs.Loop.{takes_one, size_within}
use Rattle.journal_keeping.proofs.Lengths.{within_none, within_end, within_taken, within_read}
use Rattle.journal_keeping.proofs.taking.serve_on.Goals as goal

pub units-init : goal.units-init
units-init g c = (
  [],
  none_gone commands Adds g.S.Source.rest g.S.Source.faults (IsReady c.args.writer.now.session c.args.writer.now.appender) c.args.window.now c.args.source.now [] tt c.requires.open c.requires.ready,
  added_none (g.D.Disk.state c.args.disk.now) c.args.writer.now.session c.args.writer.now.appender (g.met.D.Disk.is_disk c.args.disk.now),
  gains_none ⊥ (output g.K.Sink.held g.K.Sink.calls g.K.Sink.faults c.args.out.now),
  refl,
  refl,
  c.requires.room,
  within_none c.args.window.now (g.S.Source.rest c.args.source.now) c.args.writer.now.appender (g.D.Disk.state c.args.disk.now) (g.met.D.Disk.is_disk c.args.disk.now),
)

pub units-preserved-in-Taken : goal.units-preserved-in-Taken
units-preserved-in-Taken g c =
    let w = c.units.window in
    let i = c.units.invariant in
    let inside = within_limit w.place (length w.held) w.limit w.over c.held.ensures.within in
    let one = rw (c.in-Taken.is, c.bytes_of.ensures.value, c.held.ensures.held) at c.in-Ok.ensures.taken in
    let stays = rw (c.in-Taken.is, c.bytes_of.ensures.value, c.held.ensures.held) at c.in-Ok.ensures.stays in
    let reach = rw (c.bytes_of.ensures.value, c.held.ensures.held) at c.keep_next.ensures.lengths in
    let places = rw (c.in-Taken.is, c.bytes_of.ensures.value, c.held.ensures.held) at c.in-Ok.ensures.places in
    let all = i.0 ++ one.pair ∷ [] in (
      all,
      one_more_gone commands Adds g.S.Source.rest g.S.Source.faults c.args.window.now w c.args.source.now c.units.source [] i.0 tt tt
          (IsReady c.units.writer.session c.units.writer.appender) (IsReady c.keep_next.new.writer.session c.keep_next.new.writer.appender) c.in-Taken.taken all tt c.advance.new.self i.1 (takes_one i.0 one) c.advance.ensures stays inside,
      added_together _ _ _ _ _ _ _ _ _ i.0 (one.pair ∷ []) i.2 (one_fits one.pair one.served.fits) (_, one.served.step, refl) one.keeps one.told,
      told_more ⊥ _ _ _ i.0 one.pair i.3 one.gained,
      c.in-Ok.ensures.disk_cause.quiet (λ is. cc is) ∙ i.4,
      c.in-Ok.ensures.out_cause.quiet (λ is. cc is) ∙ i.5,
      omega (arith, i.6, c.in-Ok.ensures.room),
      within_taken c.args.window.now w (g.S.Source.rest c.args.source.now) (g.S.Source.rest c.units.source) c.args.writer.now.appender c.units.writer.appender (g.D.Disk.state c.args.disk.now) (g.D.Disk.state c.units.disk) (g.D.Disk.state c.keep_next.new.disk) i.7 inside (g.met.D.Disk.is_disk c.units.disk) reach c.in-Taken.taken c.keep_next.new.writer.appender c.advance.new.self (size_within one) c.advance.ensures places,
    )

pub returns-in-Err-clause-goes : goal.returns-in-Err-clause-goes
returns-in-Err-clause-goes g c =
    let w = c.units.window in
    let i = c.units.invariant in
    let inside = within_limit w.place (length w.held) w.limit w.over c.held.ensures.within in
    let few : length w.held ≤ w.room = omega (arith, c.held.ensures.few, ap length c.held.ensures.held) in
    let broke = rw (c.bytes_of.ensures.value, c.held.ensures.held) at c.in-Err.ensures.broken in
    serves_broken g.S.Source.rest g.S.Source.faults g.D.Disk.state (IsReady c.units.writer.session c.units.writer.appender) c.args.window.now w c.args.source.now c.units.source
    c.args.disk.now c.units.disk c.keep_next.new.disk (output g.K.Sink.held g.K.Sink.calls g.K.Sink.faults c.args.out.now) (output g.K.Sink.held g.K.Sink.calls g.K.Sink.faults c.units.out) (output g.K.Sink.held g.K.Sink.calls g.K.Sink.faults c.keep_next.new.out)
    c.args.writer.now.session c.units.writer.session c.args.writer.now.appender c.units.writer.appender c.keep_next.new.writer.appender i.0 i.1 i.2 i.3 inside few (g.met.D.Disk.is_disk c.keep_next.new.disk) c.in-Err.fault broke

pub returns-in-Overlong-clause-goes : goal.returns-in-Overlong-clause-goes
returns-in-Overlong-clause-goes g c =
    let w = c.units.window in
    let i = c.units.invariant in
    let inside = within_limit w.place (length w.held) w.limit w.over c.held.ensures.within in
    let none = rw (c.in-Overlong.is, c.bytes_of.ensures.value, c.held.ensures.held) at c.in-Ok.ensures.taken in
    let same = rw (c.in-Overlong.is) at c.in-Ok.ensures.still in
    rw (c.place.ensures, same.2, same.3) (serves_so c.args.window.now (g.S.Source.rest c.args.source.now) (g.S.Source.rest c.units.source) (g.D.Disk.state c.args.disk.now) (g.D.Disk.state c.units.disk) c.args.writer.now.session c.units.writer.session c.args.writer.now.appender c.units.writer.appender (output g.K.Sink.held g.K.Sink.calls g.K.Sink.faults c.args.out.now) (output g.K.Sink.held g.K.Sink.calls g.K.Sink.faults c.units.out) i.0 i.2 i.3 (Ok (Torn w.place)) (gone_overlong commands Adds g.S.Source.rest g.S.Source.faults c.args.window.now w c.args.source.now c.units.source [] i.0 tt tt (Names c.units.writer.session i.0 []) (IsReady c.units.writer.session c.units.writer.appender) i.1 inside c.requires.longest i.0 tt refl refl none.1) (λ P p. p))

pub units-smaller-in-Ok-Enough : goal.units-smaller-in-Ok-Enough
units-smaller-in-Ok-Enough g c = falls c.units.window c.read_on.new.window (g.S.Source.rest c.units.source) (g.S.Source.rest c.read_on.new.source) c.read_on.ensures.fills (c.in-Ok-Enough.ensures.more c.in-Ok-Enough.field-0-is).0 c.read_on.ensures.within

pub units-preserved-in-Ok-Enough : goal.units-preserved-in-Ok-Enough
units-preserved-in-Ok-Enough g c =
    let w = c.units.window in
    let i = c.units.invariant in
    let inside = within_limit w.place (length w.held) w.limit w.over c.held.ensures.within in
    let none = rw (c.in-Short.is, c.bytes_of.ensures.value, c.held.ensures.held) at c.in-Ok.ensures.taken in
    let same = rw (c.in-Short.is) at c.in-Ok.ensures.still in
    let reach = rw (c.bytes_of.ensures.value, c.held.ensures.held) at c.keep_next.ensures.lengths in
    let places = rw (c.in-Short.is, c.bytes_of.ensures.value, c.held.ensures.held) at c.in-Ok.ensures.places in
    let stays = rw (c.in-Short.is, c.bytes_of.ensures.value, c.held.ensures.held) at c.in-Ok.ensures.stays in (
      i.0,
      read_gone commands Adds g.S.Source.rest g.S.Source.faults c.args.window.now w c.args.source.now c.units.source [] i.0 tt tt
          (IsReady c.units.writer.session c.units.writer.appender) (IsReady c.keep_next.new.writer.session c.keep_next.new.writer.appender) c.read_on.new.window c.read_on.new.source i.0 tt i.1 refl refl stays inside
          c.read_on.ensures.fills (c.in-Ok-Enough.ensures.more c.in-Ok-Enough.field-0-is).1 (c.in-Ok-Enough.ensures.cause.quiet went_well),
      rw (same.0, same.1, same.2) i.2,
      rw same.3 i.3,
      rw same.2 i.4,
      rw same.3 i.5,
      omega (arith, i.6, c.in-Ok.ensures.room),
      within_read c.args.window.now w (g.S.Source.rest c.args.source.now) (g.S.Source.rest c.units.source) c.args.writer.now.appender c.units.writer.appender (g.D.Disk.state c.args.disk.now) (g.D.Disk.state c.units.disk) (g.D.Disk.state c.keep_next.new.disk) i.7 inside (g.met.D.Disk.is_disk c.units.disk) reach c.keep_next.new.writer.appender c.read_on.new.window (g.S.Source.rest c.read_on.new.source) c.read_on.ensures.fills places,
    )

pub units-smaller : goal.units-smaller
units-smaller g c = falls c.units.window c.read_on-in-NoBytes.new.window (g.S.Source.rest c.units.source) (g.S.Source.rest c.read_on-in-NoBytes.new.source) c.read_on-in-NoBytes.ensures.fills (c.in-Ok-Enough-read_on.ensures.more c.in-Ok-Enough-read_on.field-0-is).0 c.read_on-in-NoBytes.ensures.within

pub units-preserved : goal.units-preserved
units-preserved g c =
    let w = c.units.window in
    let i = c.units.invariant in
    let inside = within_limit w.place (length w.held) w.limit w.over c.held.ensures.within in
    let none = rw (c.in-NoBytes.is, c.bytes_of.ensures.value, c.held.ensures.held) at c.in-Ok.ensures.taken in
    let same = rw (c.in-NoBytes.is) at c.in-Ok.ensures.still in
    let reach = rw (c.bytes_of.ensures.value, c.held.ensures.held) at c.keep_next.ensures.lengths in
    let places = rw (c.in-NoBytes.is, c.bytes_of.ensures.value, c.held.ensures.held) at c.in-Ok.ensures.places in
    let stays = rw (c.in-NoBytes.is, c.bytes_of.ensures.value, c.held.ensures.held) at c.in-Ok.ensures.stays in (
      i.0,
      read_gone commands Adds g.S.Source.rest g.S.Source.faults c.args.window.now w c.args.source.now c.units.source [] i.0 tt tt
          (IsReady c.units.writer.session c.units.writer.appender) (IsReady c.keep_next.new.writer.session c.keep_next.new.writer.appender) c.read_on-in-NoBytes.new.window c.read_on-in-NoBytes.new.source i.0 tt i.1 refl refl stays inside
          c.read_on-in-NoBytes.ensures.fills (c.in-Ok-Enough-read_on.ensures.more c.in-Ok-Enough-read_on.field-0-is).1 (c.in-Ok-Enough-read_on.ensures.cause.quiet went_well),
      rw (same.0, same.1, same.2) i.2,
      rw same.3 i.3,
      rw same.2 i.4,
      rw same.3 i.5,
      omega (arith, i.6, c.in-Ok.ensures.room),
      within_read c.args.window.now w (g.S.Source.rest c.args.source.now) (g.S.Source.rest c.units.source) c.args.writer.now.appender c.units.writer.appender (g.D.Disk.state c.args.disk.now) (g.D.Disk.state c.units.disk) (g.D.Disk.state c.keep_next.new.disk) i.7 inside (g.met.D.Disk.is_disk c.units.disk) reach c.keep_next.new.writer.appender c.read_on-in-NoBytes.new.window (g.S.Source.rest c.read_on-in-NoBytes.new.source) c.read_on-in-NoBytes.ensures.fills places,
    )

pub returns-in-Ok-Limited-clause-goes : goal.returns-in-Ok-Limited-clause-goes
returns-in-Ok-Limited-clause-goes g c =
    let w = c.units.window in
    let i = c.units.invariant in
    let inside = within_limit w.place (length w.held) w.limit w.over c.held.ensures.within in
    let none = rw (c.in-Short.is, c.bytes_of.ensures.value, c.held.ensures.held) at c.in-Ok.ensures.taken in
    let same = rw (c.in-Short.is) at c.in-Ok.ensures.still in
    let how = c.in-Ok-Limited.ensures.limited c.in-Ok-Limited.field-0-is in
    rw (same.2, same.3) (serves_so c.args.window.now (g.S.Source.rest c.args.source.now) (g.S.Source.rest c.read_on.new.source) (g.D.Disk.state c.args.disk.now) (g.D.Disk.state c.units.disk) c.args.writer.now.session c.units.writer.session c.args.writer.now.appender c.units.writer.appender (output g.K.Sink.held g.K.Sink.calls g.K.Sink.faults c.args.out.now) (output g.K.Sink.held g.K.Sink.calls g.K.Sink.faults c.units.out) i.0 i.2 i.3 (Ok TooLong) (gone_limited commands Adds g.S.Source.rest g.S.Source.faults c.args.window.now w c.args.source.now c.units.source [] i.0 tt tt (Names c.units.writer.session i.0 []) (IsReady c.units.writer.session c.units.writer.appender) i.1 inside c.read_on.new.window c.read_on.new.source c.read_on.ensures.fills how.0 i.0 tt refl refl none.0 none.2 how.1 (limit_reached w c.read_on.new.window (g.S.Source.rest c.units.source) (g.S.Source.rest c.read_on.new.source) c.read_on.ensures.fills how.0 how.1 c.read_on.ensures.within)) (λ P p. p))

pub returns-in-Ok-Ended-clause-goes : goal.returns-in-Ok-Ended-clause-goes
returns-in-Ok-Ended-clause-goes g c =
    let w = c.units.window in
    let i = c.units.invariant in
    let inside = within_limit w.place (length w.held) w.limit w.over c.held.ensures.within in
    let none = rw (c.in-Short.is, c.bytes_of.ensures.value, c.held.ensures.held) at c.in-Ok.ensures.taken in
    let same = rw (c.in-Short.is) at c.in-Ok.ensures.still in
    let how = c.in-Ok-Ended.ensures.ended c.in-Ok-Ended.field-0-is in
    rw (c.place-in-Ok-Ended.ensures ∙ ap (λ (x : WindowState). x.place) c.read_on.ensures.fills.holds, same.2, same.3) (serves_so c.args.window.now (g.S.Source.rest c.args.source.now) (g.S.Source.rest c.read_on.new.source) (g.D.Disk.state c.args.disk.now) (g.D.Disk.state c.units.disk) c.args.writer.now.session c.units.writer.session c.args.writer.now.appender c.units.writer.appender (output g.K.Sink.held g.K.Sink.calls g.K.Sink.faults c.args.out.now) (output g.K.Sink.held g.K.Sink.calls g.K.Sink.faults c.units.out) i.0 i.2 i.3 (Ok (Torn w.place)) (gone_torn commands Adds g.S.Source.rest g.S.Source.faults c.args.window.now w c.args.source.now c.units.source [] i.0 tt tt (Names c.units.writer.session i.0 []) (IsReady c.units.writer.session c.units.writer.appender) i.1 inside c.read_on.new.window c.read_on.new.source c.read_on.ensures.fills how.0 i.0 tt refl refl none.0 none.2 how.1 (c.read_on.ensures.all how.1) none.1) (λ P p. p))

pub returns-in-Err-read_on-clause-goes : goal.returns-in-Err-read_on-clause-goes
returns-in-Err-read_on-clause-goes g c =
    let w = c.units.window in
    let i = c.units.invariant in
    let inside = within_limit w.place (length w.held) w.limit w.over c.held.ensures.within in
    let none = rw (c.in-Short.is, c.bytes_of.ensures.value, c.held.ensures.held) at c.in-Ok.ensures.taken in
    let same = rw (c.in-Short.is) at c.in-Ok.ensures.still in
    let how = c.in-Err-read_on.ensures.failed in
    rw (same.2, same.3) (serves_so c.args.window.now (g.S.Source.rest c.args.source.now) (g.S.Source.rest c.read_on.new.source) (g.D.Disk.state c.args.disk.now) (g.D.Disk.state c.units.disk) c.args.writer.now.session c.units.writer.session c.args.writer.now.appender c.units.writer.appender (output g.K.Sink.held g.K.Sink.calls g.K.Sink.faults c.args.out.now) (output g.K.Sink.held g.K.Sink.calls g.K.Sink.faults c.units.out) i.0 i.2 i.3 (Err Read) (gone_unread commands Adds g.S.Source.rest g.S.Source.faults c.args.window.now w c.args.source.now c.units.source [] i.0 tt tt (Names c.units.writer.session i.0 []) (IsReady c.units.writer.session c.units.writer.appender) i.1 inside c.read_on.new.window c.read_on.new.source c.read_on.ensures.fills how.0 i.0 tt refl refl none.0 none.2 how.1) (λ P p. p))

pub returns-in-Ok-Limited-read_on-clause-goes : goal.returns-in-Ok-Limited-read_on-clause-goes
returns-in-Ok-Limited-read_on-clause-goes g c =
    let w = c.units.window in
    let i = c.units.invariant in
    let inside = within_limit w.place (length w.held) w.limit w.over c.held.ensures.within in
    let none = rw (c.in-NoBytes.is, c.bytes_of.ensures.value, c.held.ensures.held) at c.in-Ok.ensures.taken in
    let same = rw (c.in-NoBytes.is) at c.in-Ok.ensures.still in
    let how = c.in-Ok-Limited-read_on.ensures.limited c.in-Ok-Limited-read_on.field-0-is in
    rw (same.2, same.3) (serves_so c.args.window.now (g.S.Source.rest c.args.source.now) (g.S.Source.rest c.read_on-in-NoBytes.new.source) (g.D.Disk.state c.args.disk.now) (g.D.Disk.state c.units.disk) c.args.writer.now.session c.units.writer.session c.args.writer.now.appender c.units.writer.appender (output g.K.Sink.held g.K.Sink.calls g.K.Sink.faults c.args.out.now) (output g.K.Sink.held g.K.Sink.calls g.K.Sink.faults c.units.out) i.0 i.2 i.3 (Ok TooLong) (gone_limited commands Adds g.S.Source.rest g.S.Source.faults c.args.window.now w c.args.source.now c.units.source [] i.0 tt tt (Names c.units.writer.session i.0 []) (IsReady c.units.writer.session c.units.writer.appender) i.1 inside c.read_on-in-NoBytes.new.window c.read_on-in-NoBytes.new.source c.read_on-in-NoBytes.ensures.fills how.0 i.0 tt refl refl none.0 none.2 how.1 (limit_reached w c.read_on-in-NoBytes.new.window (g.S.Source.rest c.units.source) (g.S.Source.rest c.read_on-in-NoBytes.new.source) c.read_on-in-NoBytes.ensures.fills how.0 how.1 c.read_on-in-NoBytes.ensures.within)) (λ P p. p))

pub returns-in-Ok-Ended-read_on-clause-goes : goal.returns-in-Ok-Ended-read_on-clause-goes
returns-in-Ok-Ended-read_on-clause-goes g c =
    let w = c.units.window in
    let i = c.units.invariant in
    let inside = within_limit w.place (length w.held) w.limit w.over c.held.ensures.within in
    let none = rw (c.in-NoBytes.is, c.bytes_of.ensures.value, c.held.ensures.held) at c.in-Ok.ensures.taken in
    let same = rw (c.in-NoBytes.is) at c.in-Ok.ensures.still in
    let how = c.in-Ok-Ended-read_on.ensures.ended c.in-Ok-Ended-read_on.field-0-is in
    rw (same.2, same.3) (serves_so c.args.window.now (g.S.Source.rest c.args.source.now) (g.S.Source.rest c.read_on-in-NoBytes.new.source) (g.D.Disk.state c.args.disk.now) (g.D.Disk.state c.units.disk) c.args.writer.now.session c.units.writer.session c.args.writer.now.appender c.units.writer.appender (output g.K.Sink.held g.K.Sink.calls g.K.Sink.faults c.args.out.now) (output g.K.Sink.held g.K.Sink.calls g.K.Sink.faults c.units.out) i.0 i.2 i.3 (Ok End) (gone_to_end commands Adds g.S.Source.rest g.S.Source.faults c.args.window.now w c.args.source.now c.units.source [] i.0 tt tt (Names c.units.writer.session i.0 []) (IsReady c.units.writer.session c.units.writer.appender) i.1 inside c.read_on-in-NoBytes.new.window c.read_on-in-NoBytes.new.source c.read_on-in-NoBytes.ensures.fills how.0 i.0 tt refl refl none.0 none.2 how.1 (c.read_on-in-NoBytes.ensures.all how.1) none.1) (λ P p. p))

pub returns-in-Err-read_on-2-clause-goes : goal.returns-in-Err-read_on-2-clause-goes
returns-in-Err-read_on-2-clause-goes g c =
    let w = c.units.window in
    let i = c.units.invariant in
    let inside = within_limit w.place (length w.held) w.limit w.over c.held.ensures.within in
    let none = rw (c.in-NoBytes.is, c.bytes_of.ensures.value, c.held.ensures.held) at c.in-Ok.ensures.taken in
    let same = rw (c.in-NoBytes.is) at c.in-Ok.ensures.still in
    let how = c.in-Err-read_on-2.ensures.failed in
    rw (same.2, same.3) (serves_so c.args.window.now (g.S.Source.rest c.args.source.now) (g.S.Source.rest c.read_on-in-NoBytes.new.source) (g.D.Disk.state c.args.disk.now) (g.D.Disk.state c.units.disk) c.args.writer.now.session c.units.writer.session c.args.writer.now.appender c.units.writer.appender (output g.K.Sink.held g.K.Sink.calls g.K.Sink.faults c.args.out.now) (output g.K.Sink.held g.K.Sink.calls g.K.Sink.faults c.units.out) i.0 i.2 i.3 (Err Read) (gone_unread commands Adds g.S.Source.rest g.S.Source.faults c.args.window.now w c.args.source.now c.units.source [] i.0 tt tt (Names c.units.writer.session i.0 []) (IsReady c.units.writer.session c.units.writer.appender) i.1 inside c.read_on-in-NoBytes.new.window c.read_on-in-NoBytes.new.source c.read_on-in-NoBytes.ensures.fills how.0 i.0 tt refl refl none.0 none.2 how.1) (λ P p. p))

pub read_on-requires-clause-room : goal.read_on-requires-clause-room
read_on-requires-clause-room g c =
    let w = c.units.window in
    let none = rw (c.in-Short.is, c.bytes_of.ensures.value, c.held.ensures.held) at c.in-Ok.ensures.taken in
    omega (arith, fewer_than_room commands c.args.window.now.room w.held c.requires.longest (rw c.held.ensures.held at c.bytes_of.ensures.bytes) none.0 none.2, c.units.invariant.1.room)

pub keep_next-requires-clause-ready : goal.keep_next-requires-clause-ready
keep_next-requires-clause-ready g c =
    let w = c.units.window in
    let inside = within_limit w.place (length w.held) w.limit w.over c.held.ensures.within in
    let ready = c.units.invariant.1.ready in
    (w.limit - w.place, omega (arith, inside, ap length c.bytes_of.ensures.value, ap length c.held.ensures.held), ready)

pub returns-in-Err-clause-lengths : goal.returns-in-Err-clause-lengths
returns-in-Err-clause-lengths g c =
    let w = c.units.window in
    let i = c.units.invariant in
    let inside = within_limit w.place (length w.held) w.limit w.over c.held.ensures.within in
    let reach = rw (c.bytes_of.ensures.value, c.held.ensures.held) at c.keep_next.ensures.lengths in
    within_end c.args.window.now w (g.S.Source.rest c.args.source.now) (g.S.Source.rest c.units.source) c.args.writer.now.appender c.units.writer.appender (g.D.Disk.state c.args.disk.now) (g.D.Disk.state c.units.disk) (g.D.Disk.state c.keep_next.new.disk) i.7 inside (g.met.D.Disk.is_disk c.units.disk) reach

pub returns-in-Overlong-clause-lengths : goal.returns-in-Overlong-clause-lengths
returns-in-Overlong-clause-lengths g c =
    let w = c.units.window in
    let i = c.units.invariant in
    let inside = within_limit w.place (length w.held) w.limit w.over c.held.ensures.within in
    let reach = rw (c.bytes_of.ensures.value, c.held.ensures.held) at c.keep_next.ensures.lengths in
    within_end c.args.window.now w (g.S.Source.rest c.args.source.now) (g.S.Source.rest c.units.source) c.args.writer.now.appender c.units.writer.appender (g.D.Disk.state c.args.disk.now) (g.D.Disk.state c.units.disk) (g.D.Disk.state c.keep_next.new.disk) i.7 inside (g.met.D.Disk.is_disk c.units.disk) reach

pub returns-in-Ok-Limited-clause-lengths : goal.returns-in-Ok-Limited-clause-lengths
returns-in-Ok-Limited-clause-lengths g c =
    let w = c.units.window in
    let i = c.units.invariant in
    let inside = within_limit w.place (length w.held) w.limit w.over c.held.ensures.within in
    let reach = rw (c.bytes_of.ensures.value, c.held.ensures.held) at c.keep_next.ensures.lengths in
    within_end c.args.window.now w (g.S.Source.rest c.args.source.now) (g.S.Source.rest c.units.source) c.args.writer.now.appender c.units.writer.appender (g.D.Disk.state c.args.disk.now) (g.D.Disk.state c.units.disk) (g.D.Disk.state c.keep_next.new.disk) i.7 inside (g.met.D.Disk.is_disk c.units.disk) reach

pub returns-in-Ok-Ended-clause-lengths : goal.returns-in-Ok-Ended-clause-lengths
returns-in-Ok-Ended-clause-lengths g c =
    let w = c.units.window in
    let i = c.units.invariant in
    let inside = within_limit w.place (length w.held) w.limit w.over c.held.ensures.within in
    let reach = rw (c.bytes_of.ensures.value, c.held.ensures.held) at c.keep_next.ensures.lengths in
    within_end c.args.window.now w (g.S.Source.rest c.args.source.now) (g.S.Source.rest c.units.source) c.args.writer.now.appender c.units.writer.appender (g.D.Disk.state c.args.disk.now) (g.D.Disk.state c.units.disk) (g.D.Disk.state c.keep_next.new.disk) i.7 inside (g.met.D.Disk.is_disk c.units.disk) reach

pub returns-in-Err-read_on-clause-lengths : goal.returns-in-Err-read_on-clause-lengths
returns-in-Err-read_on-clause-lengths g c =
    let w = c.units.window in
    let i = c.units.invariant in
    let inside = within_limit w.place (length w.held) w.limit w.over c.held.ensures.within in
    let reach = rw (c.bytes_of.ensures.value, c.held.ensures.held) at c.keep_next.ensures.lengths in
    within_end c.args.window.now w (g.S.Source.rest c.args.source.now) (g.S.Source.rest c.units.source) c.args.writer.now.appender c.units.writer.appender (g.D.Disk.state c.args.disk.now) (g.D.Disk.state c.units.disk) (g.D.Disk.state c.keep_next.new.disk) i.7 inside (g.met.D.Disk.is_disk c.units.disk) reach

pub returns-in-Ok-Limited-read_on-clause-lengths : goal.returns-in-Ok-Limited-read_on-clause-lengths
returns-in-Ok-Limited-read_on-clause-lengths g c =
    let w = c.units.window in
    let i = c.units.invariant in
    let inside = within_limit w.place (length w.held) w.limit w.over c.held.ensures.within in
    let reach = rw (c.bytes_of.ensures.value, c.held.ensures.held) at c.keep_next.ensures.lengths in
    within_end c.args.window.now w (g.S.Source.rest c.args.source.now) (g.S.Source.rest c.units.source) c.args.writer.now.appender c.units.writer.appender (g.D.Disk.state c.args.disk.now) (g.D.Disk.state c.units.disk) (g.D.Disk.state c.keep_next.new.disk) i.7 inside (g.met.D.Disk.is_disk c.units.disk) reach

pub returns-in-Ok-Ended-read_on-clause-lengths : goal.returns-in-Ok-Ended-read_on-clause-lengths
returns-in-Ok-Ended-read_on-clause-lengths g c =
    let w = c.units.window in
    let i = c.units.invariant in
    let inside = within_limit w.place (length w.held) w.limit w.over c.held.ensures.within in
    let reach = rw (c.bytes_of.ensures.value, c.held.ensures.held) at c.keep_next.ensures.lengths in
    within_end c.args.window.now w (g.S.Source.rest c.args.source.now) (g.S.Source.rest c.units.source) c.args.writer.now.appender c.units.writer.appender (g.D.Disk.state c.args.disk.now) (g.D.Disk.state c.units.disk) (g.D.Disk.state c.keep_next.new.disk) i.7 inside (g.met.D.Disk.is_disk c.units.disk) reach

pub returns-in-Err-read_on-2-clause-lengths : goal.returns-in-Err-read_on-2-clause-lengths
returns-in-Err-read_on-2-clause-lengths g c =
    let w = c.units.window in
    let i = c.units.invariant in
    let inside = within_limit w.place (length w.held) w.limit w.over c.held.ensures.within in
    let reach = rw (c.bytes_of.ensures.value, c.held.ensures.held) at c.keep_next.ensures.lengths in
    within_end c.args.window.now w (g.S.Source.rest c.args.source.now) (g.S.Source.rest c.units.source) c.args.writer.now.appender c.units.writer.appender (g.D.Disk.state c.args.disk.now) (g.D.Disk.state c.units.disk) (g.D.Disk.state c.keep_next.new.disk) i.7 inside (g.met.D.Disk.is_disk c.units.disk) reach
