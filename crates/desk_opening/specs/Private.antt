-- For private functions alone: what the first bytes of an input show, and a file that was opened.
use Rattle.std.specs.Prelude.{◌≡◌, ◌⊎◌, ◌*◌, ◌^◌, ◌≤◌, List, [], ℕ, Option, Some, None, IfSome, IsSome, length}
use Rattle.wire_records.specs.declared.version.Version.{Version}
use Rattle.market_rules.specs.Market.{Market}
use Rattle.market_snapshot.specs.Checkpoints.{checkpoint_bytes, HasCheckpointMagic}
use Rattle.market_history.specs.Histories.{Start, Empty, Kept}
use Rattle.disk_edge.specs.Disks.{DiskState}
use Rattle.journal_disk.specs.Entries.{IsNewDisk}
use Rattle.journal_disk.specs.Recovering.{IsForeign, IsFound}
use Rattle.journal_disk.specs.Ahead.{IsPiece}
use Rattle.journal_disk.specs.Looking.{OnlyLooks}
use Rattle.journal_keeping.specs.Beginning.{BeginsAt}
use Rattle.journal_keeping.specs.declared.fault.InputFault.{InputFault}
use Rattle.journal_keeping.specs.declared.fault.InputFault.TheVariants.{NotFlow, BadCheckpoint}
use Rattle.desk_opening.specs.declared.book.Book.{Book}
use Rattle.desk_opening.specs.declared.opening.File.{File}
use Rattle.desk_opening.specs.declared.opening.File.TheVariants as file
use Rattle.journal_keeping.specs.declared.fault.OpenFault.TheVariants as unopened
use Rattle.desk_opening.specs.declared.opening.StartFault.{StartFault}
use Rattle.desk_opening.specs.declared.opening.StartFault.TheVariants as fault
use Rattle.desk_opening.specs.Beginnings.{bytes_before}
use Rattle.desk_opening.specs.Books.{IsBookAfter}
use Rattle.desk_opening.specs.Openings.{place_of, GrowsBy, BeginsAlone, IsOpenIfNew, BeginsOtherwise, WasMaking}

-- what an input lacks that has no more bytes than these, which are fewer than those of a version's line
abbrev pub IsLacking : List ℕ → InputFault → Type 0
IsLacking bytes fault = (HasCheckpointMagic bytes × (fault ≡ BadCheckpoint)) ⊎ ((¬ HasCheckpointMagic bytes) × (fault ≡ NotFlow))

-- the checkpoint with which a market begins, if it begins with one
abbrev pub checkpoint_of : Start → Option (List ℕ)
checkpoint_of (Empty version) = None
checkpoint_of (Kept market) = Some (checkpoint_bytes market)

-- the bytes are those of a file of a version, and its entries of the journal begin at the place
abbrev pub BeginsSomehow : Version → ℕ → DiskState → List ℕ → Type 0
BeginsSomehow version place disk held = (¬ IsNewDisk held) × (¬ IsForeign held) × (market : Market) × BeginsAt version held market place disk

-- a file was opened, and is as it was found: one of a version, at its first entry that is one of the journal, or a new one
abbrev pub IsFile : File → DiskState → Type 0
IsFile (file.Kept version place ahead) disk = IfSome disk.content (IsPiece ahead) × (place ≤ 2 ^ 60) × IfSome disk.content (BeginsSomehow version place disk)
IsFile (file.New place) disk = (place ≡ 8) × IfSome disk.content (λ held. IsFound None held disk)

-- The book of a file that begins so.
pub record MakesBook (begin : Start) (market : Market) (book : Book) (start now : DiskState) : Type 0 where
  pub after : IsBookAfter begin book start now [] market
  pub alone : IfSome start.content (BeginsAlone begin)
  pub only_new : IsOpenIfNew book start.content
  pub near : place_of book ≤ 2 ^ 60
  pub lengths : GrowsBy (2 * length (bytes_before begin)) start now
  pub told : IsSome now.content → IsSome start.content

-- why no book was made of a file and an input that begins so
abbrev pub MakesNoBook : Start → DiskState → DiskState → StartFault → Type 0
MakesNoBook begin start now (fault.Open unopened.Disk) = OnlyLooks start now
MakesNoBook begin start now (fault.Open unopened.Memory) = OnlyLooks start now
MakesNoBook begin start now (fault.Open unopened.NotDisk) = ⊥
MakesNoBook begin start now (fault.Open (unopened.Damaged place)) = ⊥
MakesNoBook begin start now (fault.Open (unopened.Rejected number)) = ⊥
MakesNoBook begin start now (fault.Input why) = ⊥
MakesNoBook begin start now fault.Differs = OnlyLooks start now × IfSome start.content (λ held. BeginsOtherwise begin held now)
MakesNoBook begin start now fault.Make = WasMaking begin start now
