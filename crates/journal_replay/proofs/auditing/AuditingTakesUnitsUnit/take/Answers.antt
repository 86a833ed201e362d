use Rattle.std.proofs.Common.{refl, arith}
use Rattle.wire_records.proofs.ReadingLaws.{none_in_none}
use Rattle.journal_records.specs.Formats.{journals}
use Rattle.journal_records.proofs.Files.{journals_readable, short_at_end}
use Rattle.journal_replay.specs.Private.{state_of}
use Rattle.journal_replay.proofs.Counting.{pair_within, room_more}
use Rattle.journal_replay.proofs.auditing.AuditingTakesUnitsUnit.take.Goals as goal

pub take_pair-requires : goal.take_pair-requires
take_pair-requires c =
    let within = pair_within c.args.bytes.now c.in-Whole.pair c.in-Whole.taken c.in-Whole.ensures.1 c.in-Whole.ensures.2 in
    record { room = (c.requires.ready.0, omega (arith, within.0, within.1, c.requires.ready.1), c.requires.ready.2) }

pub returns-in_ok-take_pair-in-Whole-clause-taken : goal.returns-in_ok-take_pair-in-Whole-clause-taken
returns-in_ok-take_pair-in-Whole-clause-taken c = record {
  unit = c.in-Whole.pair;
  lawful = c.in-Whole.ensures.0;
  size = c.in-Whole.ensures.1;
  some = omega (arith, (pair_within c.args.bytes.now c.in-Whole.pair c.in-Whole.taken c.in-Whole.ensures.1 c.in-Whole.ensures.2).1);
  prefix = c.in-Whole.ensures.2;
  step = c.in_ok-take_pair-in-Whole.ensures.counted;
}

pub returns-in_ok-take_pair-in-Whole-clause-stays : goal.returns-in_ok-take_pair-in-Whole-clause-stays
returns-in_ok-take_pair-in-Whole-clause-stays c = λ left inside ready.
    let within = pair_within c.args.bytes.now c.in-Whole.pair c.in-Whole.taken c.in-Whole.ensures.1 c.in-Whole.ensures.2 in
    room_more (state_of c.args.self.now) c.in-Whole.pair (state_of c.take_pair.new.self) left c.in-Whole.taken ready c.in_ok-take_pair-in-Whole.ensures.counted (omega (arith, within.0, inside)) within.1

pub returns-in-End-clause-taken : goal.returns-in-End-clause-taken
returns-in-End-clause-taken c =
    let none = c.in-End.ensures in
    (record { none = rw none (none_in_none journals.units journals_readable.units); state = refl; output = refl }, none, rw none short_at_end)
