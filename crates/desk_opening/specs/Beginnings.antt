-- What is before the lines of many senders, and how a market begins so.
use Rattle.std.specs.Prelude.{◌≡◌, ◌⊎◌, ◌↔◌, ℕ, ◌+◌, ◌≤◌, ◌<◌, List, ◌∷◌, ◌++◌, length, take, codes, Option, Bool, IsTrue}
use Rattle.flow_io.specs.Streams.{Takes}
use Rattle.flow_io.specs.Windows.{WindowState}
use Rattle.file_units.specs.Inputs.{known}
use Rattle.wire_records.specs.Versions.{number_of}
use Rattle.wire_records.specs.declared.version.Version.{Version}
use Rattle.market_rules.specs.Market.{Market}
use Rattle.market_snapshot.specs.Checkpoints.{checkpoint_bytes, HasCheckpointMagic}
use Rattle.market_history.specs.Histories.{Start, Empty, Kept, market_of, CanStart}
use Rattle.disk_edge.specs.Disks.{DiskState}
use Rattle.input_lines.specs.Finding.{IsOpenFor}
use Rattle.journal_keeping.specs.Inputs.{BeginsUnsound}
use Rattle.journal_keeping.specs.Beginning.{IsStored, BeginsAt}
use Rattle.journal_keeping.specs.declared.fault.InputFault.{InputFault}
use Rattle.journal_keeping.specs.declared.fault.InputFault.TheVariants.{Read, Memory, NotFlow, BadCheckpoint}

-- the line that says in which version a market begins, with its line feed
abbrev pub version_line : Version → List ℕ
version_line version = codes "{\"version\":" ++ (48 + number_of version) ∷ codes "}\n"

-- the bytes before the lines: the line that says the version, or those of the checkpoint
abbrev pub bytes_before : Start → List ℕ
bytes_before (Empty version) = version_line version
bytes_before (Kept market) = checkpoint_bytes market

-- A market begins so: this is the market before its first line, and this the first entry of its file as it is stored, which has no bytes without a
-- checkpoint.
pub record IsBeginning (begin : Start) (market : Market) (stored : List ℕ) : Type 0 where
  pub starts : CanStart begin
  pub market_is : market ≡ market_of begin
  pub stored_is : IsStored begin stored

-- The beginning of an input was taken, within the limit. The window begins at the lines, and can be read on for lines of at most `most` bytes.
pub record HasBegun (most limit : ℕ) (market : Market) (stored : List ℕ) (window : WindowState) (before after : Option (List ℕ)) : Type 0 where
  pub begin : Start
  pub is_one : IsBeginning begin market stored
  pub takes : Takes before after (bytes_before begin ++ window.held)
  pub place : window.place ≡ length (bytes_before begin)
  pub limited : window.limit ≡ limit
  pub is_open : IsOpenFor most window after

-- the bytes begin neither with the magic of a checkpoint nor with the line that says a version
abbrev pub BeginsWithNeither : List ℕ → Type 0
BeginsWithNeither bytes = (¬ HasCheckpointMagic bytes) × ((version : Version) (rest : List ℕ) → ¬ (bytes ≡ version_line version ++ rest))

-- the bytes are too few to say how an input begins: fewer than those of a version's line, or the magic of a checkpoint without a complete checkpoint
abbrev pub AreTooFew : List ℕ → Type 0
AreTooFew bytes = (length bytes < 14) ⊎ BeginsUnsound bytes

-- Why no beginning was found, by what was taken of the input: at most the bytes within the limit and one more, which says that there are more.
abbrev pub NotBegun : (limit : ℕ) → (before after : Option (List ℕ)) → InputFault → Type 0
NotBegun limit before after Read = (taken : List ℕ) × Takes before after taken × (length taken ≤ limit) × AreTooFew taken
NotBegun limit before after Memory = (taken : List ℕ) × Takes before after taken × (length taken ≤ limit) × HasCheckpointMagic taken
NotBegun limit before after NotFlow = (taken : List ℕ) × Takes before after taken × (length taken ≤ limit + 1) × BeginsWithNeither (take limit (known taken after))
NotBegun limit before after BadCheckpoint = (taken : List ℕ) × Takes before after taken × (length taken ≤ limit + 1) × BeginsUnsound (take limit (known taken after))

-- A disk of a version, which holds these bytes, and on which the entries of the journal begin at the place, begins so exactly if this is true.
abbrev pub TellsBeginning : Bool → Start → Version → List ℕ → ℕ → DiskState → Type 0
TellsBeginning same begin version bytes place disk = (market : Market) (at : BeginsAt version bytes market place disk) → IsTrue same ↔ (at.begin ≡ begin)
