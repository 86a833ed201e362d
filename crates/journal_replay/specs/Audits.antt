-- What an audit finds in a journal: valid entries, those that follow them, and how the reading ends.
use Rattle.std.specs.Prelude.{ℕ, List}
use Rattle.std.specs.List.{sum_by}
use Rattle.wire_records.specs.Records.{Record}
use Rattle.wire_records.specs.Commands.{Answer, Plain, Batch, Pair}
use Rattle.wire_records.specs.Reading.{Ending, File, Reads, ReadsOn}
use Rattle.wire_records.specs.declared.version.Version.{Version}
use Rattle.flow_orders.specs.Outcomes.{Outcome, Cleared, Skipped}
use Rattle.journal_records.specs.Formats.{journals}
use Rattle.market_rules.specs.Market.{Market}
use Rattle.batch_audit.specs.Legal.{AreJudged}

-- The bytes from a place on are, in a version, these valid entries and those after them, of which the first is invalid;
-- and the reading ends so.
pub record AuditsOn (version : Version) (place : ℕ) (More : Type 0) (bytes : List ℕ) (legal : List (Pair Record Outcome)) (following : List (Record × Record)) (ending : Ending) (market : Market) : Type 0 where
  pub units : List (Record × Record)
  pub reads : ReadsOn journals place More bytes units ending
  pub judged : AreJudged version units legal following market

-- The first `limit` bytes are the magic of a journal of a version, these valid entries, and those after them, of which
-- the first is invalid.
pub record Audits (limit : ℕ) (bytes : List ℕ) (legal : List (Pair Record Outcome)) (following : List (Record × Record)) (ending : Ending) (market : Market) : Type 0 where
  pub version : Version
  pub units : List (Record × Record)
  pub reads : Reads journals limit bytes (File version units ending)
  pub judged : AreJudged version units legal following market

-- 1 for a batch that cleared, and 0 for any other answer
abbrev pub cleared_by : Answer Outcome → ℕ
cleared_by (Plain reply) = 0
cleared_by (Batch number (Cleared c)) = 1
cleared_by (Batch number (Skipped s)) = 0

-- 1 for a batch that was skipped, and 0 for any other answer
abbrev pub skipped_by : Answer Outcome → ℕ
skipped_by (Plain reply) = 0
skipped_by (Batch number (Cleared c)) = 0
skipped_by (Batch number (Skipped s)) = 1

-- the number of batches that cleared
abbrev pub cleared_in : List (Pair Record Outcome) → ℕ
cleared_in pairs = sum_by (λ pair. cleared_by pair.answer) pairs

-- the number of batches that were skipped
abbrev pub skipped_in : List (Pair Record Outcome) → ℕ
skipped_in pairs = sum_by (λ pair. skipped_by pair.answer) pairs
