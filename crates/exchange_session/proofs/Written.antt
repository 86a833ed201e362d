-- Commands whose records were written: what the records are read as, and where the answers after them are.
use Rattle.std.proofs.Common.{◌≡◌, ◌≤◌, ◌<◌, ◌-◌, ℕ, List, [], ◌++◌, length, length-append, take, drop, Ok, Err, refl, sym, ap, ◌∙◌, arith}
use Rattle.std.proofs.lemmas.List.{take_rest, drop_at}
use Rattle.wire_records.specs.Records.{Record, encoding}
use Rattle.wire_records.specs.Commands.{Command, Answer, Pair}
use Rattle.wire_records.specs.CommandRecords.{tag_of, record_of, IsCommand, Encodes}
use Rattle.wire_records.specs.Versions.{most_tag, IsReadAs}
use Rattle.wire_records.specs.declared.version.Version.{Version}
use Rattle.wire_records.specs.declared.version.Version.TheVariants.{Four}
use Rattle.wire_records.specs.declared.command.BodyFault.TheVariants.{UnknownTag}
use Rattle.wire_records.proofs.Readings.{seen_in_later}
use Rattle.flow_orders.specs.Outcomes.{Outcome}
use Rattle.journal_records.specs.Replies.{answer_record, AreAnswer}
use Rattle.journal_records.specs.Pairs.{IsPair, pair_encoding}

-- the record of a command that a version has is read as it
pub written_read : (version : Version) (command : Command) → IsCommand command → tag_of command ≤ most_tag version → IsReadAs version (record_of command) (Ok command)
written_read version command fits few =
    let encodes : Encodes command (record_of command) = record { fits = fits; encoded = refl } in
    let known = (seen_in_later Four (record_of command) (Ok command) (λ same. absurd (let e = same in cc))).0 encodes in
    ((known.0.0, few), encodes)

-- that of any other is read as none
pub written_unread : (version : Version) (command : Command) → most_tag version < tag_of command → IsReadAs version (record_of command) (Err UnknownTag)
written_unread version command above = λ is. omega (arith, is.1, above)

-- a command's record and the answer's after it are an entry
pub entry_written : (asked : Record) (answer : Answer Outcome) (old first entry : List ℕ) → old ≡ [] → first ≡ old ++ encoding asked → entry ≡ first ++ encoding (answer_record answer)
    → entry ≡ pair_encoding (record { asked = asked; answer = answer })
unfolding pair_encoding
entry_written asked answer old first entry empty is whole = whole ∙ ap (λ xs. xs ++ encoding (answer_record answer)) (is ∙ ap (λ xs. xs ++ encoding asked) empty)

-- the answer's record is the rest of an entry
pub answer_there : (pair : Pair Record Outcome) (entry : List ℕ) (place : ℕ) → IsPair pair → entry ≡ pair_encoding pair → place ≡ length (encoding pair.asked) → AreAnswer pair.answer (take (length entry - place) (drop place entry))
unfolding pair_encoding
answer_there pair entry place fits is placed = record {
  fits = fits.answer;
  short = fits.answered;
  encoded = take_rest entry place ∙ ap (drop place) is ∙ drop_at (encoding pair.asked) (encoding (answer_record pair.answer)) place (sym placed);
}

pub place_within : (pair : Pair Record Outcome) (entry : List ℕ) (place : ℕ) → entry ≡ pair_encoding pair → place ≡ length (encoding pair.asked) → place ≤ length entry
unfolding pair_encoding
place_within pair entry place is placed = omega (arith, placed, ap length is, length-append (encoding pair.asked) (encoding (answer_record pair.answer)))
