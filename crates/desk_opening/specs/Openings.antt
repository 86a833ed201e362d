-- A file and an input that are opened together: with what a market of many senders begins, or why it wasn't opened.
use Rattle.std.specs.Prelude.{◌≡◌, ◌⊎◌, ℕ, ◌+◌, ◌*◌, ◌^◌, ◌≤◌, List, [], ◌++◌, length, Option, IfSome, IsSome, ⊤}
use Rattle.wire_records.specs.Records.{Record}
use Rattle.wire_records.specs.Commands.{Pair}
use Rattle.wire_records.specs.declared.version.Version.{Version}
use Rattle.flow_io.specs.Streams.{Takes}
use Rattle.flow_io.specs.Windows.{WindowState}
use Rattle.flow_orders.specs.Outcomes.{Outcome}
use Rattle.market_rules.specs.Market.{Market}
use Rattle.market_history.specs.Histories.{Start, Empty, Kept as OfCheckpoint, market_of, CanStart}
use Rattle.disk_edge.specs.Disks.{DiskState, AtEachMoment}
use Rattle.journal_disk.specs.Entries.{IsNewDisk}
use Rattle.journal_disk.specs.Recovering.{IsForeign}
use Rattle.journal_disk.specs.Looking.{OnlyLooks}
use Rattle.journal_disk.specs.Lengths.{HasAtMost, LeavesAtMost}
use Rattle.input_lines.specs.Finding.{IsOpenFor}
use Rattle.journal_keeping.specs.Keeping.{HoldsLegal}
use Rattle.journal_keeping.specs.Openings.{IsOpening}
use Rattle.journal_keeping.specs.Openings as opening
use Rattle.journal_keeping.specs.Beginning.{BeginsAt, HasFirst, WhileOpening}
use Rattle.journal_keeping.specs.declared.fault.OpenFault.{OpenFault}
use Rattle.journal_keeping.specs.declared.fault.OpenFault.TheVariants as unopened
use Rattle.desk_opening.specs.declared.book.Book.{Book}
use Rattle.desk_opening.specs.declared.book.Book.TheVariants.{Kept}
use Rattle.desk_opening.specs.declared.book.Book.TheVariants as book
use Rattle.desk_opening.specs.declared.opening.StartFault.{StartFault}
use Rattle.desk_opening.specs.declared.opening.StartFault.TheVariants.{Open, Input, Differs, Make}
use Rattle.desk_opening.specs.Beginnings.{bytes_before, NotBegun}
use Rattle.desk_opening.specs.Books.{IsBookAfter}

-- the place of a book's next commit byte
abbrev pub place_of : Book → ℕ
place_of (Kept place ahead) = place
place_of (book.Open place) = place

-- At each moment a crash leaves at most so many bytes more than it might have left at the start, or than the 9 of a new disk.
abbrev pub GrowsBy : ℕ → DiskState → DiskState → Type 0
GrowsBy size start now = (least : ℕ) → 9 ≤ least → LeavesAtMost least start → AtEachMoment start now (HasAtMost (least + size))

-- A file that isn't new, and begins without a checkpoint, has no first entry that holds one.
abbrev pub BeginsAlone : Start → List ℕ → Type 0
BeginsAlone (Empty version) held = (¬ IsNewDisk held) → (first : Market) → ¬ HasFirst first held
BeginsAlone (OfCheckpoint market) held = ⊤

-- a file that gets more from its opening on was new
abbrev pub IsOpenIfNew : Book → Option (List ℕ) → Type 0
IsOpenIfNew (Kept place ahead) content = ⊤
IsOpenIfNew (book.Open place) content = IfSome content (λ held. IsOpening held opening.New)

-- The file and the input were opened: how both begin, what was taken of the input, that its window can be read on for lines of at most `most`
-- bytes, the book, and how much room there is for more.
pub record HasOpened (most limit : ℕ) (start now : DiskState) (market : Market) (book : Book) (window : WindowState) (before after : Option (List ℕ)) : Type 0 where
  pub begin : Start
  pub starts : CanStart begin
  pub market_is : market ≡ market_of begin
  pub takes : Takes before after (bytes_before begin ++ window.held)
  pub place : window.place ≡ length (bytes_before begin)
  pub limited : window.limit ≡ limit
  pub is_open : IsOpenFor most window after
  pub file : IsBookAfter begin book start now [] market
  pub alone : IfSome start.content (BeginsAlone begin)
  pub only_new : IsOpenIfNew book start.content
  pub orders : market.next_order ≤ 2 ^ 63
  pub near : place_of book ≤ 2 ^ 60
  pub lengths : GrowsBy (2 * length (bytes_before begin)) start now
  pub told : IsSome now.content → IsSome start.content

-- what a fault at the opening of a file says of the bytes that it held; the only damage is at its first entry
abbrev pub IsUnopened : Option (List ℕ) → OpenFault → Type 0
IsUnopened content unopened.NotDisk = IfSome content (λ held. IsOpening held opening.Foreign)
IsUnopened content (unopened.Damaged place) = IfSome content (λ held. IsOpening held (opening.Damaged place)) × (place ≡ 8)
IsUnopened content (unopened.Rejected number) = ⊥
IsUnopened content unopened.Disk = ⊤
IsUnopened content unopened.Memory = ⊤

-- a file that holds these bytes is refused by them alone, whatever the input is: it is none of a journal, or damaged at its first entry
abbrev pub IsNoBook : List ℕ → Type 0
IsNoBook held = IsOpening held opening.Foreign ⊎ IsOpening held (opening.Damaged 8)

-- a file that held these bytes, and is of a version, begins otherwise than so
abbrev pub BeginsOtherwise : Start → List ℕ → DiskState → Type 0
BeginsOtherwise begin held now =
    (¬ IsNewDisk held) × (¬ IsForeign held) × (version : Version) × (first : Market) × (place : ℕ) × (at : BeginsAt version held first place now) × ¬ (at.begin ≡ begin)

-- A new file was being made one that begins so: what a crash left meanwhile.
pub record WasMaking (begin : Start) (start now : DiskState) : Type 0 where
  pub is_new : IfSome start.content (λ held. IsOpening held opening.New)
  pub moments : (was : Start) (old : List (Pair Record Outcome)) (m : Market) → HoldsLegal start was old m → AtEachMoment start now (WhileOpening begin start old)
  pub lengths : GrowsBy (2 * length (bytes_before begin)) start now

-- the beginning of an input was taken, which is so, within the limit
abbrev pub TakesBeginning : (limit : ℕ) → Start → Option (List ℕ) → Option (List ℕ) → Type 0
TakesBeginning limit begin before after = CanStart begin × (taken : List ℕ) × Takes before after (bytes_before begin ++ taken) × (length (bytes_before begin ++ taken) ≤ limit)

-- Why the file and the input weren't opened. Unless a new file was being made, it was only looked at.
abbrev pub HasNotOpened : (limit : ℕ) → (start now : DiskState) → (before after : Option (List ℕ)) → StartFault → Type 0
HasNotOpened limit start now before after (Open fault) = IsUnopened start.content fault × OnlyLooks start now
HasNotOpened limit start now before after (Input fault) = NotBegun limit before after fault × OnlyLooks start now
HasNotOpened limit start now before after Differs = OnlyLooks start now × (begin : Start) × TakesBeginning limit begin before after × IfSome start.content (λ held. BeginsOtherwise begin held now)
HasNotOpened limit start now before after Make = (begin : Start) × TakesBeginning limit begin before after × WasMaking begin start now
