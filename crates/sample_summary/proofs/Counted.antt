-- The counts of an answer, and how many units it counts at most.
use Rattle.std.proofs.Common.{◌≡◌, ℕ, ◌+◌, ◌-◌, ◌*◌, ◌^◌, ◌<◌, ◌≤◌, map, length, take, get_or, sym, subst, ◌∙◌, length-append, arith}
use Rattle.std.specs.List.{sum_by}
use Rattle.std.proofs.lemmas.List.{get_or-map}
use Rattle.std.proofs.lemmas.List.Sums.{sum_by_more, sum_by-le}
use Rattle.wire_records.specs.Records.{Record, encoding}
use Rattle.wire_records.specs.Commands.{Answer, Plain, Batch, Pair}
use Rattle.wire_records.proofs.Encoded.{length-encoding}
use Rattle.flow_orders.specs.Outcomes.{Fill, Clearing, Outcome, Cleared, Skipped}
use Rattle.journal_records.proofs.FieldForms.{clearing_from}
use Rattle.journal_records.specs.Replies.{answer_record, EncodesAnswer}
use Rattle.journal_records.specs.Pairs.{IsPair, pair_encoding}
use Rattle.journal_records.proofs.Encoded.{answer_unique, cleared_pair_room}
use Rattle.journal_replay.specs.Audits.{cleared_by, skipped_by}
use Rattle.sample_summary.specs.declared.counting.Counts.{Counts}
use Rattle.sample_summary.specs.declared.sampling.Sampling.{Sampling}
use Rattle.sample_summary.specs.Summary.{units_by}
use Rattle.sample_summary.specs.Private.{CountsAnswer, AddsAnswer, CountsFit, IsReadyToSample, most_units}

-- one more rate
pub rate_more : (c : Clearing) (place units rate : ℕ) → place < length c.fills → rate ≡ get_or (map (λ (f : Fill). f.rate) c.fills) place 0 → units ≡ sum_by (λ (f : Fill). f.rate) (take place c.fills)
    → units + rate ≡ sum_by (λ (f : Fill). f.rate) (take (place + 1) c.fills)
rate_more c place units rate within is before =
    let none : Fill = record { order = 0; rate = 0 } in
    omega (arith, is, before, get_or-map (λ (f : Fill). f.rate) c.fills place none 0 within, sum_by_more (λ (f : Fill). f.rate) c.fills place none within)

-- a record encodes one answer, and so has one count
pub counted_as : (r : Record) (a b : Answer Outcome) (counts : Counts) → EncodesAnswer r a → EncodesAnswer r b → CountsAnswer a counts → CountsAnswer b counts
counted_as r a b counts first other counted = subst (λ (x : Answer Outcome). CountsAnswer x counts) (answer_unique a b first.fits other.fits (sym first.encoded ∙ other.encoded)) counted

-- an answer counts once at most
pub one_at_most : (a : Answer Outcome) → (cleared_by a ≤ 1) × (skipped_by a ≤ 1)
one_at_most (Plain reply) = (omega arith, omega arith)
one_at_most (Batch number (Cleared c)) = (omega arith, omega arith)
one_at_most (Batch number (Skipped s)) = (omega arith, omega arith)

-- an answer counts at most as many units as its record has space for rates
by_answer : (asked : Record) (a : Answer Outcome) → IsPair (record { asked = asked; answer = a }) → units_by a ≤ 5 * most_units
unfolding pair_encoding
by_answer asked (Plain reply) fits = omega arith
by_answer asked (Batch number (Skipped s)) fits = omega arith
by_answer asked (Batch number (Cleared c)) fits =
    let clearing = (clearing_from number c fits.answer).1 in
    let answered = answer_record (Batch number (Cleared c)) in
    let few : length c.fills ≤ 21845 =
    omega (arith, cleared_pair_room asked number c clearing.residual_each, length-append (encoding asked) (encoding answered), length-encoding answered, fits.answered.body)
    in
    let small = sum_by-le (λ (f : Fill). f.rate) (2 ^ 32) c.fills (λ k d within. omega (arith, (clearing.fills k d within).1)) in
    omega (arith, small, few)

pub units_few : (pair : Pair Record Outcome) → IsPair pair → units_by pair.answer ≤ 5 * most_units
units_few pair fits = by_answer pair.asked pair.answer fits

-- the counts stay within their width for an entry
pub has_room : (counts more : Counts) (pair : Pair Record Outcome) → CountsFit counts 5 → IsPair pair → CountsAnswer pair.answer more
    → (counts.cleared + more.cleared < 2 ^ 64) × (counts.skipped + more.skipped < 2 ^ 64) × (counts.units + more.units < 2 ^ 64)
has_room counts more pair room fits counted =
    let one = one_at_most pair.answer in
    (omega (arith, room.cleared, counted.cleared, one.0), omega (arith, room.skipped, counted.skipped, one.1), omega (arith, room.units, counted.units, units_few pair fits))

-- after an entry the counts stay within their width for fewer bytes
pub room_more : (old new : Counts) (pair : Pair Record Outcome) (left taken : ℕ) → CountsFit old left → AddsAnswer pair.answer old new → IsPair pair → taken ≤ left → 5 ≤ taken → CountsFit new (left - taken)
room_more old new pair left taken room counts fits within some =
    let one = one_at_most pair.answer in
    record {
      cleared = omega (arith, room.cleared, counts.cleared, one.0, within, some);
      skipped = omega (arith, room.skipped, counts.skipped, one.1, within, some);
      units = omega (arith, room.units, counts.units, units_few pair fits, within, some);
    }

-- counts that stay within their width for some bytes do for fewer bytes
pub room_fewer : (counts : Counts) (left fewer : ℕ) → CountsFit counts left → fewer ≤ left → CountsFit counts fewer
room_fewer counts left fewer room less = record {
  cleared = omega (arith, room.cleared, less);
  skipped = omega (arith, room.skipped, less);
  units = omega (arith, room.units, less);
}

-- a state that is ready for some bytes is ready for fewer bytes
pub ready_fewer : (s : Sampling) (left fewer : ℕ) → IsReadyToSample s left → fewer ≤ left → IsReadyToSample s fewer
ready_fewer s left fewer ready less = record { same = ready.same; next = omega (arith, ready.next, less); counts = room_fewer s.counts left fewer ready.counts less }
