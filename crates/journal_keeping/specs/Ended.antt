-- What keeping a journal results in, by its answer, and on what disk a later run may begin.
use Rattle.std.specs.Prelude.{◌≡◌, ◌⊎◌, ℕ, List, map, take, Option, Some, IfSome, Result, Ok, Err, ⊤}
use Rattle.wire_records.specs.Records.{Record}
use Rattle.wire_records.specs.Commands.{Pair}
use Rattle.wire_records.specs.Grammars.{BeginsWith}
use Rattle.wire_records.specs.Reading.{Reads}
use Rattle.wire_records.specs.Formats.{commands}
use Rattle.wire_records.specs.Reading as reading
use Rattle.flow_orders.specs.Outcomes.{Outcome}
use Rattle.journal_records.specs.Pairs.{pair_encoding}
use Rattle.market_rules.specs.Market.{Market}
use Rattle.market_history.specs.Histories.{Start}
use Rattle.disk_edge.specs.Disks.{DiskState}
use Rattle.disk_edge.specs.Images.{LeavesOnly}
use Rattle.journal_keeping.specs.Inputs.{BeginsUnsound}
use Rattle.journal_keeping.specs.Starts.{version_of, sources, source_starts, BeginsOtherwise}
use Rattle.journal_keeping.specs.Keeping.{IsLegalImage, HoldsLegal}
use Rattle.journal_keeping.specs.Openings.{Opening, New, Legal, IsOpening}
use Rattle.journal_keeping.specs.Openings as opening
use Rattle.journal_keeping.specs.Outputs.{Output}
use Rattle.journal_keeping.specs.Dialogs.{HasServed, KeepsJust, asked_of}
use Rattle.journal_keeping.specs.declared.fault.KeepFault.{KeepFault}
use Rattle.journal_keeping.specs.declared.fault.KeepFault.TheVariants.{Read, Write, Disk, Memory, NotDisk, Damaged, Rejected, NotFlow, BadCheckpoint, Torn, TooLong}

-- The disk held these bytes, which were opened so, and still holds them.
abbrev pub IsRefused : List ℕ → Opening → DiskState → Type 0
IsRefused held opens end = IsOpening held opens × (end.content ≡ Some held)

-- All records of the source were served, which ends so, and the disk keeps their entries. The output gained exactly the bytes of the entries.
abbrev pub HasKeptAll : ℕ → List ℕ → Option (List ℕ) → DiskState → Output → Output → reading.Ending → Type 0
HasKeptAll limit held content end out later ending =
    HasServed source_starts held ⊥ out later (λ input market count new texts now. IfSome content (λ bytes. Reads sources limit bytes (reading.File input (asked_of new) ending)) × (texts ≡ map pair_encoding new))
    (KeepsJust end)

-- The disk was new, and the source's first bytes are so: the disk stays new, with what it held.
abbrev pub StaysNew : (List ℕ → Type 0) → ℕ → List ℕ → Option (List ℕ) → DiskState → Type 0
StaysNew Are limit held content end =
    IsOpening held New × IfSome content (λ bytes. Are (take limit bytes)) × (end.content ≡ Some held) × LeavesOnly end.images held

-- The source is no command file of the disk's version: the disk keeps the old entries, and a crash leaves just them. Or the disk was new and
-- the source is neither a command file nor a checkpoint and a command file of its version: the disk stays new, with what it held.
abbrev pub HasLeftAll : ℕ → List ℕ → Option (List ℕ) → DiskState → Type 0
HasLeftAll limit held content end =
    ((begin : Start) × (old : List (Pair Record Outcome)) × (market : Market) × IsOpening held (Legal begin old market)
    × IfSome content (λ bytes. (body : List ℕ) → ¬ BeginsWith commands.magics (take limit bytes) (version_of begin) body) × KeepsJust end begin old)
    ⊎ StaysNew BeginsOtherwise limit held content end

-- what keeping a journal results in, if the disk is known to have held these bytes
abbrev pub ComesTo : (limit : ℕ) → List ℕ → Option (List ℕ) → DiskState → Output → Output → Result ⊤ KeepFault → Type 0
ComesTo limit held content end out later (Ok done) = HasKeptAll limit held content end out later reading.End
ComesTo limit held content end out later (Err (Torn place)) = HasKeptAll limit held content end out later (reading.Torn place)
ComesTo limit held content end out later (Err TooLong) = HasKeptAll limit held content end out later reading.TooLong
ComesTo limit held content end out later (Err NotFlow) = (later ≡ out) × HasLeftAll limit held content end
ComesTo limit held content end out later (Err BadCheckpoint) = (later ≡ out) × StaysNew BeginsUnsound limit held content end
ComesTo limit held content end out later (Err NotDisk) = (later ≡ out) × IsRefused held opening.Foreign end
ComesTo limit held content end out later (Err (Damaged place)) = (later ≡ out) × IsRefused held (opening.Damaged place) end
ComesTo limit held content end out later (Err (Rejected number)) = (later ≡ out) × IsRefused held (opening.Rejected number) end
ComesTo limit held content end out later (Err Read) = ⊤
ComesTo limit held content end out later (Err Write) = ⊤
ComesTo limit held content end out later (Err Disk) = ⊤
ComesTo limit held content end out later (Err Memory) = ⊤

-- the disk is refused
abbrev pub IsRefusal : Result ⊤ KeepFault → Type 0
IsRefusal result = (result ≡ Err NotDisk) ⊎ ((place : ℕ) × (result ≡ Err (Damaged place))) ⊎ ((number : ℕ) × (result ≡ Err (Rejected number)))

-- After a crash at any moment of a run, or after its return, the disk is one that a run may begin on.
pub record MayBeginAgain (start end : DiskState) : Type 0 where
  pub stopped : (image : List ℕ) → end.since start.clock image → IsLegalImage image
  pub returned : (image : List ℕ) → end.images image → IsLegalImage image
  pub told : IfSome end.content (λ bytes. (begin : Start) × (pairs : List (Pair Record Outcome)) × (market : Market) × HoldsLegal end begin pairs market)
