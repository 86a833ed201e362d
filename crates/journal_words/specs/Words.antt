-- `flow audit`, `flow explain` and `flow report`, as subcommands over the entries of a journal.
use Rattle.std.specs.Prelude.{◌≡◌, ◌+◌, ℕ, []}
use Rattle.wire_records.specs.Records.{Record}
use Rattle.wire_records.specs.Commands.{Answer}
use Rattle.flow_orders.specs.Outcomes.{Outcome}
use Rattle.journal_records.specs.Replies.{EncodesAnswer}
use Rattle.market_rules.specs.Market.{Market}
use Rattle.market_rules.specs.Allocating.{RecordMayAllocate}
use Rattle.journal_replay.specs.Audits.{cleared_by, skipped_by}
use Rattle.batch_report.specs.Reports.{IsReport}
use Rattle.word_driver.specs.Word.{Word}
use Rattle.journal_words.specs.Line.{counted_line}
use Rattle.journal_words.specs.Findings.{IsExplained}
use Rattle.journal_words.specs.Watching.{Sight, Legal, Illegal, End, Watch, Watched, over_pairs}

-- how many batches cleared, and how many were skipped
pub record Counts : Type 0 where
  pub cleared : ℕ
  pub skipped : ℕ

-- an entry is counted by the answer that its reply encodes
pub record CountsOne (pair : Record × Record) (old new : Counts) : Type 0 where
  pub answer : Answer Outcome
  pub encoded : EncodesAnswer pair.1 answer
  pub cleared : new.cleared ≡ old.cleared + cleared_by answer
  pub skipped : new.skipped ≡ old.skipped + skipped_by answer

-- a report may run out of memory for the text of an entry
abbrev pub AllocatesText : Sight → Type 0
AllocatesText (Legal pair) = Unit {0}
AllocatesText (Illegal pair) = ⊥
AllocatesText End = ⊥

-- An audit counts, gives the number of the first invalid entry, counted from 1, and writes the line at the end.
abbrev pub counting : Watch Counts ℕ
counting = record {
  Sees = λ market before pair old new text. CountsOne pair old new × (text ≡ []);
  Rejects = λ market before pair counts number text. (number ≡ before + 1) × (text ≡ []);
  Closes = λ market pairs counts text. text ≡ counted_line pairs counts.cleared counts.skipped;
  Stops = λ market pairs counts number text. ⊥;
  Allocates = λ market pairs sight counts. ⊥;
}

-- `flow audit`
abbrev pub audit : Word (Record × Record) (Watched Counts) ℕ
audit = over_pairs counting

-- at the first invalid entry, memory may run out while its finding is sought, if it may at its audit
abbrev pub AllocatesToFind : Market → Sight → Type 0
AllocatesToFind market (Legal pair) = ⊥
AllocatesToFind market (Illegal pair) = RecordMayAllocate market pair.0
AllocatesToFind market End = ⊥

-- An explanation counts and closes as an audit does, and of the first invalid entry it writes the line of what is found of it.
abbrev pub explaining : Watch Counts ℕ
explaining = record {
  Sees = counting.Sees;
  Rejects = λ market before pair counts number text. (number ≡ before + 1) × IsExplained market (before + 1) pair text;
  Closes = counting.Closes;
  Stops = counting.Stops;
  Allocates = λ market pairs sight counts. AllocatesToFind market sight;
}

-- `flow explain`
abbrev pub explain : Word (Record × Record) (Watched Counts) ℕ
explain = over_pairs explaining

-- A report writes the lines of each valid entry under its number, counted from 1, and gives the number of the first invalid one.
abbrev pub telling : Watch (Unit {0}) ℕ
telling = record {
  Sees = λ market before pair old new text. IsReport market (before + 1) pair text;
  Rejects = λ market before pair seen number text. (number ≡ before + 1) × (text ≡ []);
  Closes = λ market pairs seen text. text ≡ [];
  Stops = λ market pairs seen number text. ⊥;
  Allocates = λ market pairs sight seen. AllocatesText sight;
}

-- `flow report`
abbrev pub report : Word (Record × Record) (Watched (Unit {0})) ℕ
report = over_pairs telling
