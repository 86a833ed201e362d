-- Which status keeping a journal, and serving lines, ends with: by its result, and by the bytes of the disk and of the source.
use Rattle.std.specs.Prelude.{◌≡◌, ◌⊎◌, ◌<◌, ◌≤◌, ℕ, List, length, take, Result, Ok, Err, ⊤}
use Rattle.wire_records.specs.Records.{Record}
use Rattle.wire_records.specs.Grammars.{BeginsWith}
use Rattle.wire_records.specs.Reading.{Reading, NotFlow, File, Reads}
use Rattle.wire_records.specs.Formats.{commands}
use Rattle.wire_records.specs.declared.version.Version.{Version}
use Rattle.market_snapshot.specs.Checkpoints.{HasCheckpointMagic}
use Rattle.market_history.specs.Histories.{Start, Empty}
use Rattle.journal_keeping.specs.Inputs.{BeginsUnsound}
use Rattle.journal_keeping.specs.Starts.{version_of, sources}
use Rattle.journal_keeping.specs.declared.fault.KeepFault.{KeepFault}
use Rattle.journal_keeping.specs.declared.fault.KeepFault.TheVariants as kept
use Rattle.journal_keeping.specs.Openings.{Opening, Foreign, New, Damaged, Rejected, Legal, IsOpening}
use Rattle.exit_status.specs.declared.status.Status.{Status}
use Rattle.exit_status.specs.declared.status.Status.TheVariants as status
use Rattle.exit_status.specs.Statuses.{ending_status, reading_status}

-- the status of how keeping a journal ended
abbrev pub kept_status : ℕ → Result ⊤ KeepFault → Status
kept_status limit (Ok done) = status.Done
kept_status limit (Err kept.Read) = status.ReadFault
kept_status limit (Err kept.Write) = status.WriteFault
kept_status limit (Err kept.Disk) = status.DiskFault
kept_status limit (Err kept.Memory) = status.NoMemory
kept_status limit (Err kept.NotDisk) = status.NotDisk
kept_status limit (Err (kept.Damaged place)) = status.Damaged place
kept_status limit (Err (kept.Rejected number)) = status.Rejected number
kept_status limit (Err kept.NotFlow) = status.NotFlow
kept_status limit (Err kept.BadCheckpoint) = status.BadCheckpoint
kept_status limit (Err (kept.Torn place)) = status.Torn place
kept_status limit (Err kept.TooLong) = status.TooLong limit

-- the status of a source of a new disk: as for `run`, but one that begins with an unsound checkpoint has a status of its own
abbrev pub IsSourceStatus : ℕ → List ℕ → Reading Start Record → Status → Type 0
IsSourceStatus limit bytes NotFlow ends =
    (BeginsUnsound (take limit bytes) × (ends ≡ status.BadCheckpoint)) ⊎ ((¬ BeginsUnsound (take limit bytes)) × (ends ≡ status.NotFlow))
IsSourceStatus limit bytes (File input records ending) ends = ends ≡ ending_status limit ending

-- what the first `limit` bytes of the source are read as, for a disk of a version: no command file of it, or its records and an ending
abbrev pub ReadsKept : Version → ℕ → List ℕ → Reading Start Record → Type 0
ReadsKept version limit bytes NotFlow = (body : List ℕ) → ¬ BeginsWith commands.magics (take limit bytes) version body
ReadsKept version limit bytes (File input records ending) = (input ≡ Empty version) × Reads sources limit bytes (File input records ending)

-- The status after a disk was opened so: a disk that is refused has a status of its own; otherwise it is the status of the source, as for
-- `run`, but for a disk that isn't new a source of another version, or one that begins with a checkpoint, is no command file.
abbrev pub OpensTo : ℕ → List ℕ → Opening → Status → Type 0
OpensTo limit bytes Foreign ends = ends ≡ status.NotDisk
OpensTo limit bytes (Damaged place) ends = ends ≡ status.Damaged place
OpensTo limit bytes (Rejected number) ends = ends ≡ status.Rejected number
OpensTo limit bytes New ends = (reading : Reading Start Record) × Reads sources limit bytes reading × IsSourceStatus limit bytes reading ends
OpensTo limit bytes (Legal begin pairs market) ends =
    (reading : Reading Start Record) × ReadsKept (version_of begin) limit bytes reading × (ends ≡ reading_status limit reading)

-- the bytes of a disk and of a source lead to this status, if no call fails and memory doesn't run out
abbrev pub AsksStatus : ℕ → List ℕ → List ℕ → Status → Type 0
AsksStatus limit held bytes ends = (opening : Opening) × IsOpening held opening × OpensTo limit bytes opening ends

-- the status at the end of the lines: the input has at most the limit, or more
abbrev pub IsEnd : ℕ → List ℕ → Status → Type 0
IsEnd limit bytes ends = ((length bytes ≤ limit) × (ends ≡ status.Done)) ⊎ ((limit < length bytes) × (ends ≡ status.TooLong limit))

-- The status after a disk was opened so: a disk that is refused has a status of its own. An input that begins with the magic of a checkpoint is none for a disk
-- that isn't new, and for a new one has to begin with the checkpoint of a consistent market. Any other is served to its end.
abbrev pub LinesOpenTo : ℕ → List ℕ → Opening → Status → Type 0
LinesOpenTo limit bytes Foreign ends = ends ≡ status.NotDisk
LinesOpenTo limit bytes (Damaged place) ends = ends ≡ status.Damaged place
LinesOpenTo limit bytes (Rejected number) ends = ends ≡ status.Rejected number
LinesOpenTo limit bytes New ends =
    (BeginsUnsound (take limit bytes) × (ends ≡ status.BadCheckpoint)) ⊎ ((¬ BeginsUnsound (take limit bytes)) × IsEnd limit bytes ends)
LinesOpenTo limit bytes (Legal begin pairs market) ends =
    (HasCheckpointMagic (take limit bytes) × (ends ≡ status.NotFlow)) ⊎ ((¬ HasCheckpointMagic (take limit bytes)) × IsEnd limit bytes ends)

-- the bytes of a disk and of an input lead to this status, if no call fails and memory doesn't run out
abbrev pub LinesAskStatus : ℕ → List ℕ → List ℕ → Status → Type 0
LinesAskStatus limit held bytes ends = (opening : Opening) × IsOpening held opening × LinesOpenTo limit bytes opening ends
