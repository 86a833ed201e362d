-- A valid entry is counted, and leaves fewer bytes.
use Rattle.std.proofs.Common.{◌≡◌, ◌-◌, ◌≤◌, ℕ, List, ◌++◌, length, drop, ap, length-append, arith}
use Rattle.wire_records.specs.Records.{Record, encoding}
use Rattle.wire_records.proofs.Encoded.{length-encoding}
use Rattle.journal_records.specs.Formats.{journals}
use Rattle.batch_audit.proofs.LawProofs.{pairs_number_one}
use Rattle.journal_replay.specs.Private.{State, CountsLegal, CountersFit}

-- an entry takes ten bytes at least
pub ten : (pair : Record × Record) → 10 ≤ length (journals.units.encode pair)
ten pair = omega (arith, length-append (encoding pair.0) (encoding pair.1), length-encoding pair.0, length-encoding pair.1)

-- an entry that is a prefix of bytes leaves as many fewer
pub pair_within : (bytes : List ℕ) (pair : Record × Record) (taken : ℕ) → taken ≡ length (journals.units.encode pair) → bytes ≡ journals.units.encode pair ++ drop taken bytes → (taken ≤ length bytes) × (10 ≤ taken)
pair_within bytes pair taken size prefix = (omega (arith, size, ap length prefix, length-append (journals.units.encode pair) (drop taken bytes)), omega (arith, size, ten pair))

-- the numbers still fit after an entry
pub room_more : (old : State) (pair : Record × Record) (new : State) (left taken : ℕ) → CountersFit old left → CountsLegal old pair new → taken ≤ left → 10 ≤ taken → CountersFit new (left - taken)
room_more old pair new left taken room one within some = record {
  numbers = omega (arith, room.numbers, pairs_number_one old.market pair new.market one.legal, within, some);
  pairs = omega (arith, room.pairs, one.pairs, within, some);
}
