-- The first part of an input to resume from: a journal, or a checkpoint.
use Rattle.std.specs.Prelude.{◌≡◌, ◌+◌, ℕ, List, ◌++◌, length}
use Rattle.wire_records.specs.Records.{Record}
use Rattle.wire_records.specs.Commands.{Pair}
use Rattle.wire_records.specs.Grammars.{BeginsWithNone}
use Rattle.wire_records.specs.declared.version.Version.{Version}
use Rattle.flow_orders.specs.Outcomes.{Outcome}
use Rattle.journal_records.specs.Formats.{journals, journal_in}
use Rattle.market_rules.specs.Market.{Market}
use Rattle.batch_audit.specs.Legal.{IsLegalJournal, IsIllegalPair}
use Rattle.market_snapshot.specs.Checkpoints.{IsCheckpoint, HasCheckpointMagic, BeginsWithNoCheckpoint}
use Rattle.session_resume.specs.declared.first.Origin.{Origin}
use Rattle.session_resume.specs.declared.first.Origin.TheVariants.{Journal, Checkpoint}

-- what an input begins with
pub data First : Type 0 where
  -- the magic of no journal and of no checkpoint
  Neither : First
  -- the magic of a checkpoint, and no checkpoint of a consistent market
  NoCheckpoint : First
  -- a journal of which the entry of this number, counted from 1, is the first that isn't valid
  Illegal : ℕ → First
  -- a valid journal up to the end of its last complete entry, or a checkpoint: its market, where it ends, and the rest that follows
  Whole : Origin → Market → ℕ → List ℕ → First

-- The bytes are a valid journal, which leads to this market, and after it from this place on a rest that begins with no complete entry.
pub record BeginsWithJournal (bytes : List ℕ) (market : Market) (place : ℕ) (rest : List ℕ) : Type 0 where
  pub version : Version
  pub pairs : List (Pair Record Outcome)
  pub legal : IsLegalJournal version pairs market
  pub whole : bytes ≡ journal_in version pairs ++ rest
  pub last : BeginsWithNone journals.units rest
  pub ends : place ≡ length (journal_in version pairs)

-- The bytes begin with a valid journal, followed by a complete entry that is no step of its market; the entry has this
-- number, counted from 1.
pub record BeginsIllegal (bytes : List ℕ) (number : ℕ) : Type 0 where
  pub version : Version
  pub pairs : List (Pair Record Outcome)
  pub market : Market
  pub bad : Record × Record
  pub rest : List ℕ
  pub legal : IsLegalJournal version pairs market
  pub whole : bytes ≡ journal_in version pairs ++ (journals.units.encode bad ++ rest)
  pub lawful : journals.units.IsLawful bad
  pub illegal : IsIllegalPair market bad
  pub counted : number ≡ length pairs + 1

-- The bytes are a checkpoint of this market, and after it from this place on a rest.
pub record BeginsWithCheckpoint (bytes : List ℕ) (market : Market) (place : ℕ) (rest : List ℕ) : Type 0 where
  pub checkpoint : List ℕ
  pub is_one : IsCheckpoint market checkpoint
  pub whole : bytes ≡ checkpoint ++ rest
  pub ends : place ≡ length checkpoint

-- the bytes begin with this
abbrev pub IsFirst : List ℕ → First → Type 0
IsFirst bytes Neither = BeginsWithNone journals.magics bytes × (¬ HasCheckpointMagic bytes)
IsFirst bytes NoCheckpoint = HasCheckpointMagic bytes × BeginsWithNoCheckpoint bytes
IsFirst bytes (Illegal number) = BeginsIllegal bytes number
IsFirst bytes (Whole Journal market place rest) = BeginsWithJournal bytes market place rest
IsFirst bytes (Whole Checkpoint market place rest) = BeginsWithCheckpoint bytes market place rest
