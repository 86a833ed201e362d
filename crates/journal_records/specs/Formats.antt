-- Journals as files: entries of two records each, whatever these ask and answer.
use Rattle.std.specs.Prelude.{◌+◌, ℕ, List, [], ◌∷◌, ◌++◌, codes}
use Rattle.std.specs.List.{flat_map}
use Rattle.wire_records.specs.Records.{Record, most_body}
use Rattle.wire_records.specs.Commands.{Pair}
use Rattle.wire_records.specs.Grammars.{both}
use Rattle.wire_records.specs.Reading.{Format}
use Rattle.wire_records.specs.declared.version.Version.{Version}
use Rattle.wire_records.specs.Versions.{number_of}
use Rattle.wire_records.specs.Formats.{magics, records, EitherStatesOver}
use Rattle.flow_orders.specs.Outcomes.{Outcome}
use Rattle.journal_records.specs.Replies.{answer_record, most_reply_body}
use Rattle.journal_records.specs.Pairs.{pair_encoding}

-- the magic of a journal of each version: a word, and the version's number as a digit (48 is `0`)
abbrev pub journal_magic_of : Version → List ℕ
journal_magic_of version = codes "FLOWJNL" ++ (48 + number_of version) ∷ []

-- the bytes of a journal of these entries, in a version
abbrev pub journal_in : Version → List (Pair Record Outcome) → List ℕ
journal_in version pairs = journal_magic_of version ++ flat_map pair_encoding pairs

-- the format of journals: each entry is a command record followed by the record of a reply, each with a body within its limit
abbrev pub journals : Format Version (Record × Record)
journals = record {
  magics = magics journal_magic_of;
  units = both (records most_body) (records most_reply_body);
  IsOverlong = EitherStatesOver most_body most_reply_body;
}

-- the two records of an entry
abbrev pub records_of : Pair Record Outcome → Record × Record
records_of pair = (pair.asked, answer_record pair.answer)
