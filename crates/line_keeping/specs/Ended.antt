-- What serving lines results in, by its answer: how far the lines were answered, and what the disk and the output have then.
use Rattle.std.specs.Prelude.{◌≡◌, ◌⊎◌, ◌+◌, ◌<◌, ◌≤◌, ℕ, List, [], ◌∷◌, ◌++◌, length, take, Option, Some, None, IfSome, Result, Ok, Err, OnOk, ⊤}
use Rattle.wire_records.specs.Records.{Record}
use Rattle.wire_records.specs.Commands.{Pair}
use Rattle.word_driver.specs.Does.{IsTaken}
use Rattle.flow_orders.specs.Outcomes.{Outcome}
use Rattle.market_rules.specs.Market.{Market}
use Rattle.market_snapshot.specs.Checkpoints.{HasCheckpointMagic}
use Rattle.market_history.specs.Histories.{Start}
use Rattle.disk_edge.specs.Disks.{DiskState}
use Rattle.disk_edge.specs.Images.{LeavesOnly}
use Rattle.line_records.specs.Lines.{ended_by_feeds}
use Rattle.journal_keeping.specs.Openings as opening
use Rattle.journal_keeping.specs.Ended.{IsRefused, StaysNew}
use Rattle.journal_keeping.specs.declared.fault.KeepFault.{KeepFault}
use Rattle.journal_keeping.specs.declared.fault.KeepFault.TheVariants.{Read, Write, Disk, Memory, NotDisk, Damaged, Rejected, NotFlow, BadCheckpoint, Torn, TooLong}
use Rattle.journal_keeping.specs.Inputs.{BeginsUnsound}
use Rattle.journal_keeping.specs.Openings.{New, Legal, IsOpening}
use Rattle.journal_keeping.specs.Pacing.{RunsOutEarly}
use Rattle.journal_keeping.specs.Outputs.{Output}
use Rattle.journal_keeping.specs.Dialogs.{HasServed, KeepsJust}
use Rattle.line_keeping.specs.Answers.{MayRunOut, AreLinesAnswered, AreAnsweredInto}
use Rattle.line_keeping.specs.Inputs.{bytes_before, line_starts, HasLines, HasLinesWithin, IsUnopened}

-- All these lines of the input were answered, and the disk keeps the entries that they added. The output gained exactly the answers.
abbrev pub HasAnswered : List ℕ → Option (List ℕ) → DiskState → Output → Output → (List ℕ → Start → List (List ℕ) → Type 0) → Type 0
HasAnswered held content end out later Are =
    HasServed line_starts held ⊥ out later
    (λ before market count new texts now. (lines : List (List ℕ)) × IfSome content (λ bytes. Are bytes before lines) × AreLinesAnswered market count 1 lines new texts now) (KeepsJust end)

-- Answering broke off at a line, which is the next after those that were answered, or among whose commands is the last that was. The source was read no
-- further than 65,538 bytes past that line.
abbrev pub BreaksOff : (limit : ℕ) → List ℕ → (content left : Option (List ℕ)) → (Cut : Type 0) → Output → Output → (May : List ℕ → Type 0) → (At : Start → List (Pair Record Outcome) → Type 0) → Type 0
BreaksOff limit held content left Cut out later May At =
    HasServed line_starts held Cut out later
    (λ before market count new texts now. (read : List (List ℕ)) × (line : List ℕ) × (more : List (List ℕ)) × May line × AreAnsweredInto market count read line new texts now
    × IfSome content (λ bytes. HasLinesWithin limit bytes before (read ++ line ∷ more)
    × (taken : ℕ) × IsTaken bytes left taken × (taken ≤ length (bytes_before before) + length (ended_by_feeds (read ++ line ∷ [])) + 65538))) At

-- the disk was new, and keeps what it held; nothing was answered, and what was taken of the input doesn't show yet what is before the lines
abbrev pub IsNotOpened : ℕ → List ℕ → Option (List ℕ) → Option (List ℕ) → DiskState → Output → Output → Type 0
IsNotOpened limit held content left end out later =
    IsOpening held New × (end.content ≡ Some held) × LeavesOnly end.images held × (later ≡ out)
    × IfSome content (λ bytes. (n : ℕ) × IsTaken bytes left n × IsUnopened None (take n (take limit bytes)))

-- nothing was answered, and the source was read no further than 65,538 bytes past what is before its lines
abbrev pub IsNotBegun : ℕ → Option (List ℕ) → Option (List ℕ) → Output → Output → Type 0
IsNotBegun limit content left out later =
    (later ≡ out)
    × ((left ≡ content) ⊎ IfSome content (λ bytes. (before : Start) × (lines : List (List ℕ)) × HasLinesWithin limit bytes before lines
    × (taken : ℕ) × IsTaken bytes left taken × (taken ≤ length (bytes_before before) + 65538)))

-- what serving lines results in, if the disk is known to have held these bytes
module _ (limit : ℕ) (held : List ℕ) (content left : Option (List ℕ)) (end : DiskState) (out later : Output) where
  abbrev pub ComesTo : Result ⊤ KeepFault → Type 0
  ComesTo (Ok done) = HasAnswered held content end out later (λ bytes before lines. HasLinesWithin limit bytes before lines × (length bytes ≤ limit))
  ComesTo (Err TooLong) = HasAnswered held content end out later (λ bytes before lines. HasLinesWithin limit bytes before lines × (limit < length bytes))
  -- all lines that were complete in what was taken of the input were answered, and no others
  ComesTo (Err Read) =
      HasAnswered held content end out later (λ bytes before lines. (n : ℕ) × IsTaken bytes left n × HasLines ⊤ (take n (take limit bytes)) before lines)
      ⊎ IsNotOpened limit held content left end out later
  ComesTo (Err Write) = BreaksOff limit held content left ⊤ out later (λ line. ⊤) (KeepsJust end)
  ComesTo (Err Disk) = IsNotBegun limit content left out later ⊎ BreaksOff limit held content left ⊥ out later (λ line. ⊤) (λ begin pairs. ⊤)
  ComesTo (Err Memory) =
      ((left ≡ content) × (later ≡ out))
      ⊎ (RunsOutEarly limit held content left end out later ⊎ BreaksOff limit held content left ⊥ out later MayRunOut (KeepsJust end))
  -- a checkpoint is before the lines, but the disk isn't new
  ComesTo (Err NotFlow) =
      (later ≡ out) × (begin : Start) × (old : List (Pair Record Outcome)) × (market : Market) × IsOpening held (Legal begin old market)
      × IfSome content (λ bytes. HasCheckpointMagic (take limit bytes)) × KeepsJust end begin old
  ComesTo (Err BadCheckpoint) = (later ≡ out) × StaysNew BeginsUnsound limit held content end
  ComesTo (Err NotDisk) = (later ≡ out) × IsRefused held opening.Foreign end
  ComesTo (Err (Damaged place)) = (later ≡ out) × IsRefused held (opening.Damaged place) end
  ComesTo (Err (Rejected number)) = (later ≡ out) × IsRefused held (opening.Rejected number) end
  ComesTo (Err (Torn place)) = ⊥

-- nothing is left of the source if all its lines were answered
abbrev pub LeavesNone : Result ⊤ KeepFault → Option (List ℕ) → Type 0
LeavesNone result left = OnOk result (IfSome left (λ rest. rest ≡ []))
