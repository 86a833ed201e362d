-- How far a source is read while its records are served and their entries kept, and when memory may run out.
use Rattle.std.specs.Prelude.{◌≡◌, ◌⊎◌, ◌+◌, ◌≤◌, ℕ, List, [], ◌∷◌, ◌++◌, length, map, take, Option, Some, IfSome, Result, Ok, Err, ⊤}
use Rattle.std.specs.List.{flat_map}
use Rattle.flow_io.specs.Streams.{Grows}
use Rattle.wire_records.specs.Records.{Record}
use Rattle.wire_records.specs.Commands.{Pair}
use Rattle.wire_records.specs.Grammars.{BeginsWith, BeginsWithNone, encode_all}
use Rattle.wire_records.specs.Reading.{StartsWith}
use Rattle.wire_records.specs.Formats.{commands}
use Rattle.word_driver.specs.Does.{IsTaken}
use Rattle.flow_orders.specs.Outcomes.{Outcome}
use Rattle.journal_records.specs.Pairs.{pair_encoding}
use Rattle.market_history.specs.Histories.{Start}
use Rattle.market_rules.specs.Allocating.{RecordMayAllocate}
use Rattle.disk_edge.specs.Disks.{DiskState}
use Rattle.journal_keeping.specs.Inputs.{IsInCheckpoint}
use Rattle.journal_keeping.specs.Starts.{source_start, sources, source_starts, IsUnbegun}
use Rattle.journal_keeping.specs.Openings.{New, IsOpening}
use Rattle.journal_keeping.specs.Outputs.{Output}
use Rattle.journal_keeping.specs.Dialogs.{HasServed, KeepsJust, asked_of}
use Rattle.journal_keeping.specs.declared.fault.KeepFault.{KeepFault}
use Rattle.journal_keeping.specs.declared.fault.KeepFault.TheVariants.{Read, Write, Disk, Memory, NotDisk, Damaged, Rejected, NotFlow, BadCheckpoint, Torn, TooLong}

-- The bytes begin as a source and have the records of these entries, and no complete record follows. The output gained exactly these
-- entries.
pub record AnswersAll (bytes : List ℕ) (out later : Output) : Type 0 where
  pub input : Start
  pub pairs : List (Pair Record Outcome)
  pub body : List ℕ
  pub rest : List ℕ
  pub magic : BeginsWith sources.magics bytes input body
  pub whole : body ≡ encode_all commands.units (asked_of pairs) ++ rest
  pub none : BeginsWithNone commands.units rest
  pub written : Grows out.held later.held (flat_map pair_encoding pairs)

-- The output gained these entries, complete, which answer the first records of the bytes, and at most 1,030 bytes were taken past those.
pub record IsNearPairs (limit : ℕ) (bytes : List ℕ) (taken : ℕ) (out later : Output) : Type 0 where
  pub input : Start
  pub pairs : List (Pair Record Outcome)
  pub more : List ℕ
  pub starts : StartsWith sources limit bytes input (asked_of pairs)
  pub stands : Grows out.held later.held (flat_map pair_encoding pairs ++ more)
  pub near : taken ≤ length (source_start input) + length (encode_all commands.units (asked_of pairs)) + 1030

-- the source was read no further than 1,030 bytes past the last record whose entry was written, or past its beginning, or past the first
-- eight bytes
abbrev pub IsNear : ℕ → Option (List ℕ) → Option (List ℕ) → Output → Output → Type 0
IsNear limit content left out later =
    IfSome content (λ bytes. (taken : ℕ) × IsTaken bytes left taken × ((taken ≤ 8 + 1030) ⊎ IsNearPairs limit bytes taken out later))

-- all complete records that were taken of the source were answered, and no others
abbrev pub ReadsAll : ℕ → Option (List ℕ) → Option (List ℕ) → Output → Output → Type 0
ReadsAll limit content left out later =
    IfSome content (λ bytes. (n : ℕ) × IsTaken bytes left n
    × ((IsUnbegun n (take n (take limit bytes)) × (later ≡ out)) ⊎ AnswersAll (take n (take limit bytes)) out later))

-- What was read and written, by the result: after a fault of the source all complete records that were taken were answered, and no others;
-- if the disk or the output failed or memory ran out, the source was read no further than near the last record that was answered, or memory
-- ran out for its checkpoint; and if all was done, nothing is left of the source.
abbrev pub KeepsPace : ℕ → Option (List ℕ) → Option (List ℕ) → Output → Output → Result ⊤ KeepFault → Type 0
KeepsPace limit content left out later (Ok done) = IfSome content (λ bytes. left ≡ Some [])
KeepsPace limit content left out later (Err Read) = ReadsAll limit content left out later
KeepsPace limit content left out later (Err Write) = IsNear limit content left out later
KeepsPace limit content left out later (Err Disk) = IsNear limit content left out later
KeepsPace limit content left out later (Err Memory) = IsNear limit content left out later ⊎ (IsInCheckpoint limit content left × (later ≡ out))
KeepsPace limit content left out later (Err NotDisk) = ⊤
KeepsPace limit content left out later (Err (Damaged place)) = ⊤
KeepsPace limit content left out later (Err (Rejected number)) = ⊤
KeepsPace limit content left out later (Err NotFlow) = ⊤
KeepsPace limit content left out later (Err BadCheckpoint) = ⊤
KeepsPace limit content left out later (Err (Torn place)) = ⊤
KeepsPace limit content left out later (Err TooLong) = ⊤

-- Next in the source, after the records that were served, is one that may allocate. Their entries are kept, and the output gained them.
abbrev pub AllocatesNext : ℕ → List ℕ → Option (List ℕ) → DiskState → Output → Output → Type 0
AllocatesNext limit held content end out later =
    HasServed source_starts held ⊥ out later (λ input market count new texts now. (texts ≡ map pair_encoding new) × (next : Record) × RecordMayAllocate now next
    × IfSome content (λ bytes. StartsWith sources limit bytes input (asked_of new ++ next ∷ []))) (KeepsJust end)

-- memory ran out for the checkpoint of an input: the disk was new, and still holds what it held, and nothing was written
abbrev pub RunsOutEarly : ℕ → List ℕ → Option (List ℕ) → Option (List ℕ) → DiskState → Output → Output → Type 0
RunsOutEarly limit held content left end out later = IsOpening held New × (end.content ≡ Some held) × (later ≡ out) × IsInCheckpoint limit content left

-- when memory may run out: nothing was read or written, or a checkpoint was being read or kept, or the next record may allocate
abbrev pub RunsOut : ℕ → List ℕ → Option (List ℕ) → Option (List ℕ) → DiskState → Output → Output → Type 0
RunsOut limit held content left end out later =
    ((left ≡ content) × (later ≡ out)) ⊎ (RunsOutEarly limit held content left end out later ⊎ AllocatesNext limit held content end out later)
