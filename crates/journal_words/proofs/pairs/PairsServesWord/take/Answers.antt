use Rattle.std.proofs.Common.{refl, arith}
use Rattle.wire_records.proofs.ReadingLaws.{none_in_none}
use Rattle.journal_records.specs.Formats.{journals}
use Rattle.journal_records.proofs.Files.{journals_readable, short_at_end}
use Rattle.journal_replay.proofs.Counting.{pair_within}
use Rattle.journal_words.proofs.JournalLaws.{room_more}
use Rattle.journal_words.proofs.pairs.PairsServesWord.take.Goals as goal

pub take_pair-requires-clause-next : goal.take_pair-requires-clause-next
take_pair-requires-clause-next g c =
    let within = pair_within c.args.bytes.now c.in-Whole.pair c.in-Whole.taken c.in-Whole.ensures.1 c.in-Whole.ensures.2 in
    omega (arith, within.0, within.1, c.requires.ready.1, c.requires.ready.2.orders)

pub take_pair-requires-clause-few : goal.take_pair-requires-clause-few
take_pair-requires-clause-few g c =
    let within = pair_within c.args.bytes.now c.in-Whole.pair c.in-Whole.taken c.in-Whole.ensures.1 c.in-Whole.ensures.2 in
    omega (arith, within.0, within.1, c.requires.ready.1, c.requires.ready.2.counts)

pub returns-in-Ok-clause-taken : goal.returns-in-Ok-clause-taken
returns-in-Ok-clause-taken g c = record {
  unit = c.in-Whole.pair;
  lawful = c.in-Whole.ensures.0;
  size = c.in-Whole.ensures.1;
  some = omega (arith, (pair_within c.args.bytes.now c.in-Whole.pair c.in-Whole.taken c.in-Whole.ensures.1 c.in-Whole.ensures.2).1);
  prefix = c.in-Whole.ensures.2;
  step = c.in-Ok.ensures.seen;
}

pub returns-in-Ok-clause-stays : goal.returns-in-Ok-clause-stays
returns-in-Ok-clause-stays g c = λ left inside ready.
    let within = pair_within c.args.bytes.now c.in-Whole.pair c.in-Whole.taken c.in-Whole.ensures.1 c.in-Whole.ensures.2 in
    let one = c.in-Ok.ensures.seen in
    room_more c.args.self.now.audit c.take_pair.new.self.audit c.in-Whole.pair c.args.self.now.pairs c.take_pair.new.self.pairs left c.in-Whole.taken ready one.legal one.counted (omega (arith, within.0, inside)) within.1

pub returns-in-End-clause-taken : goal.returns-in-End-clause-taken
returns-in-End-clause-taken g c =
    let none = c.in-End.ensures in
    (record { none = rw none (none_in_none journals.units journals_readable.units); state = refl; output = c.requires.empty }, none, rw none short_at_end)
