-- What the bytes of a disk are opened as.
use Rattle.std.specs.Prelude.{◌≡◌, ◌⊎◌, ℕ, ◌+◌, List, [], ◌++◌, length, map}
use Rattle.wire_records.specs.Records.{Record}
use Rattle.wire_records.specs.Commands.{Pair}
use Rattle.flow_orders.specs.Outcomes.{Outcome}
use Rattle.journal_records.specs.Formats.{records_of}
use Rattle.market_rules.specs.Market.{Market}
use Rattle.market_history.specs.Histories.{Start, Empty, Kept, market_of}
use Rattle.batch_audit.specs.Legal.{IsIllegalPair}
use Rattle.journal_disk.specs.Pairs.{RecordPair}
use Rattle.journal_disk.specs.Entries.{IsHead, entries, IsNewDisk, HasEntries}
use Rattle.journal_disk.specs.Recovering.{IsForeign}
use Rattle.journal_disk.specs.Stepping.{HasEntryAt, IsDamagedAt}
use Rattle.journal_keeping.specs.Inputs.{InputStarts}
use Rattle.journal_keeping.specs.Starts.{version_of, head_of}
use Rattle.journal_keeping.specs.Keeping.{IsKeptJournal}

-- What a disk is when it is opened: no journal's, new, damaged at the commit byte at this place, one whose first invalid entry has this
-- number, counted from 1, or one that keeps the entries of a valid journal that begins so.
pub data Opening : Type 0 where
  Foreign : Opening
  New : Opening
  Damaged : (place : ℕ) → Opening
  Rejected : (number : ℕ) → Opening
  Legal : Start → List (Pair Record Outcome) → Market → Opening

-- The bytes begin as those of a disk with this beginning and these entries, which are a valid journal; what follows begins at this place.
pub record BeginsLegal (begin : Start) (bytes : List ℕ) (legal : List (Pair Record Outcome)) (market : Market) (place : ℕ) : Type 0 where
  pub lawful : IsHead (head_of begin)
  pub journal : IsKeptJournal begin legal market
  pub rest : List ℕ
  pub encoded : bytes ≡ entries (head_of begin) (map records_of legal) ++ rest
  pub begins : place ≡ length (entries (head_of begin) (map records_of legal))

-- at this place, after valid entries, the bytes are damaged; the first entry isn't so if it holds a checkpoint of the disk's version
abbrev pub IsDamaged : ℕ → List ℕ → Type 0
IsDamaged place bytes =
    (begin : Start) × (legal : List (Pair Record Outcome)) × (market : Market) × BeginsLegal begin bytes legal market place × IsDamagedAt place bytes
    × (place ≡ 8 → (first : Market) (after : ℕ) → ¬ BeginsLegal (Kept first) bytes [] first after)

-- these bytes are opened so: one of the five ways
abbrev pub IsOpening : List ℕ → Opening → Type 0
IsOpening bytes Foreign = IsForeign bytes
IsOpening bytes New = IsNewDisk bytes × (¬ IsForeign bytes)
IsOpening bytes (Damaged place) = (¬ IsNewDisk bytes) × (¬ IsForeign bytes) × IsDamaged place bytes
IsOpening bytes (Rejected number) =
    (¬ IsNewDisk bytes) × (¬ IsForeign bytes) × (begin : Start) × (legal : List (Pair Record Outcome)) × (market : Market) × (place : ℕ) × BeginsLegal begin bytes legal market place
    × (bad : RecordPair) × (rest : List ℕ) × HasEntryAt place bad rest bytes × IsIllegalPair market bad × (number ≡ length legal + 1)
IsOpening bytes (Legal begin pairs market) =
    (¬ IsNewDisk bytes) × (¬ IsForeign bytes) × IsKeptJournal begin pairs market × HasEntries (head_of begin) (map records_of pairs) bytes

-- the bytes are no kept file, or a damaged one, or one with an invalid entry: they are not new, and keep no valid journal
abbrev pub KeepNone : List ℕ → Type 0
KeepNone bytes = (¬ IsOpening bytes New) × ((begin : Start) (pairs : List (Pair Record Outcome)) (market : Market) → ¬ IsOpening bytes (Legal begin pairs market))

-- How a disk with these bytes is continued: the beginning of its journal, its old entries and their market, and how the input has to begin.
-- A new disk has no entries, and begins as the input does.
abbrev pub OpensAs : InputStarts → List ℕ → Start → List (Pair Record Outcome) → Market → Start → Type 0
OpensAs starts bytes begin old market input =
    (IsOpening bytes (Legal begin old market) × (input ≡ Empty (version_of begin)))
    ⊎ (IsOpening bytes New × (old ≡ []) × (market ≡ market_of begin) × (input ≡ begin) × starts.MayBegin begin)
