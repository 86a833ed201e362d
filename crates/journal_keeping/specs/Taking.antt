-- For private functions alone: how the beginning of an input is taken.
use Rattle.std.specs.Prelude.{◌≡◌, ◌⊎◌, ◌+◌, ◌≤◌, ℕ, List, ◌++◌, length, take, Option, Some, None, IfSome}
use Rattle.flow_io.specs.Streams.{Takes}
use Rattle.flow_io.specs.Windows.{WindowState}
use Rattle.wire_records.specs.Grammars.{BeginsWith}
use Rattle.wire_records.specs.Formats.{commands}
use Rattle.wire_records.specs.declared.version.Version.{Version}
use Rattle.word_driver.specs.Does.{IsTaken}
use Rattle.market_history.specs.Histories.{Start, CanStart}
use Rattle.journal_keeping.specs.declared.fault.InputFault.{InputFault}
use Rattle.journal_keeping.specs.declared.fault.InputFault.TheVariants.{Read, Memory, NotFlow, BadCheckpoint}
use Rattle.journal_keeping.specs.Inputs.{InputStarts, BeginsUnsound, IsInCheckpoint, InputBegins, HasShownStart}
use Rattle.journal_keeping.specs.Starts.{source_start, source_starts, BeginsOtherwise}

-- How an input is begun. Where a version is wanted, that is the version of a journal that is continued; where none is, the journal is new.
pub record InputFormat : Type 1 where
  pub starts : InputStarts
  -- the bytes of a beginning
  pub encode : Start → List ℕ
  -- an input that doesn't begin as it should within a limit, if its content is known
  pub IsOther : Option Version → (limit : ℕ) → Option (List ℕ) → Type 0
  -- so many bytes may be read past the beginning
  pub ahead : ℕ

module _ (format : InputFormat) (limit : ℕ) where
  -- the input was read no further past its beginning than it may be
  abbrev pub IsNearStart : List ℕ → Option (List ℕ) → Type 0
  IsNearStart bytes left =
      (n : ℕ) × IsTaken bytes left n × (input : Start) × (body : List ℕ) × format.starts.Begins (take limit bytes) input body × (n ≤ length (format.encode input) + format.ahead)

  -- why the beginning of an input wasn't taken, and what was taken of it then
  abbrev pub NotTaken : Option Version → Option (List ℕ) → Option (List ℕ) → InputFault → Type 0
  NotTaken wanted content left NotFlow = format.IsOther wanted limit content
  NotTaken wanted content left BadCheckpoint = (wanted ≡ None) × IfSome content (λ bytes. BeginsUnsound (take limit bytes))
  NotTaken wanted content left Read = IfSome content (λ bytes. (n : ℕ) × IsTaken bytes left n × format.starts.IsPart wanted n (take n (take limit bytes)))
  NotTaken wanted content left Memory = (left ≡ content) ⊎ ((wanted ≡ None) × IsInCheckpoint limit content left)

  -- A window follows the beginning of an input, and was filled no further than the limit.
  pub record IsAfterStart (input : Start) (window : WindowState) (before after : Option (List ℕ)) : Type 0 where
    pub starts : CanStart input
    pub limited : window.limit ≡ limit
    pub place : window.place ≡ length (format.encode input)
    pub takes : Takes before after (format.encode input ++ window.held)
    pub within : window.place + length window.held ≤ window.limit
    pub near : length window.held ≤ format.ahead
    pub begins : InputBegins format.starts limit before input
    pub shown : IfSome before (λ bytes. HasShownStart format.starts limit bytes after)

-- the bytes begin as no source of a new disk, and with no unsound checkpoint, or not with the magic of the version of a disk
abbrev pub IsNoSource : Option Version → List ℕ → Type 0
IsNoSource None bytes = BeginsOtherwise bytes
IsNoSource (Some version) bytes = (body : List ℕ) → ¬ BeginsWith commands.magics bytes version body

-- how a source is begun
abbrev pub source_format : InputFormat
source_format = record {
  starts = source_starts;
  encode = source_start;
  IsOther = λ wanted limit content. IfSome content (λ bytes. IsNoSource wanted (take limit bytes));
  ahead = 1030;
}
