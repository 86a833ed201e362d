-- The file of a market of many senders: its entries are read along with the lines, and then more are kept.
use Rattle.std.specs.Prelude.{◌≡◌, ◌≢◌, ◌⊎◌, ℕ, ◌+◌, ◌^◌, ◌≤◌, List, [], length, map, All, Option, None, Some, IfSome, IsSome, ⊤}
use Rattle.std.specs.List.{flat_map}
use Rattle.wire_records.specs.Records.{Record}
use Rattle.wire_records.specs.Commands.{Pair}
use Rattle.flow_orders.specs.Outcomes.{Outcome}
use Rattle.journal_records.specs.Pairs.{IsPair}
use Rattle.journal_records.specs.Formats.{records_of}
use Rattle.market_rules.specs.Market.{Market}
use Rattle.market_history.specs.Histories.{Start, market_of}
use Rattle.disk_edge.specs.Disks.{DiskState, AtEachMoment}
use Rattle.journal_disk.specs.declared.fault.DiskFault.{DiskFault}
use Rattle.journal_disk.specs.declared.fault.DiskFault.TheVariants.{Damaged, NotDisk}
use Rattle.journal_disk.specs.Pairs.{RecordPair}
use Rattle.journal_disk.specs.Entries.{Head, entry, IsNewDisk, most_unkept, StandsFor, WithOrWithout, Holds, Keeps}
use Rattle.journal_disk.specs.Recovering.{IsForeign}
use Rattle.journal_disk.specs.Looking.{OnlyLooks}
use Rattle.journal_disk.specs.Ahead.{AheadState, IsPiece, HoldsPart}
use Rattle.journal_disk.specs.Stepping.{StatesAt, IsClosedAt, FindsNone}
use Rattle.journal_disk.specs.Lengths.{ReachesAtMost}
use Rattle.journal_keeping.specs.Starts.{head_of}
use Rattle.journal_keeping.specs.Keeping.{IsKeptJournal, HoldsLegal}
use Rattle.journal_keeping.specs.Openings.{Legal, IsOpening}
use Rattle.journal_keeping.specs.Openings as opening
use Rattle.journal_keeping.specs.Beginning.{WhileOpening}
use Rattle.journal_keeping.specs.Private.{KeepsMore}
use Rattle.desk_opening.specs.declared.book.Book.{Book}
use Rattle.desk_opening.specs.declared.book.Book.TheVariants.{Kept, Open}

-- ---- one call

-- the disk holds entries up to the place
abbrev pub HoldsUpTo : ℕ → DiskState → Type 0
HoldsUpTo place disk = IfSome disk.content (λ _. (head : Head) × (pairs : List RecordPair) × (left : List ℕ) × Holds head pairs place left disk)

-- a book can be asked for the next entry: the piece is one of the disk's bytes, and the disk holds entries up to the place
abbrev pub CanFind : Book → DiskState → Type 0
CanFind (Kept place ahead) disk = IfSome disk.content (IsPiece ahead) × HoldsUpTo place disk
CanFind (Open place) disk = ⊤

-- An entry of so many bytes was found at the place: it is in the piece.
pub record FindsOne (place count : ℕ) (next : AheadState) (disk now : DiskState) : Type 0 where
  pub looks : OnlyLooks disk now
  pub piece : IfSome now.content (IsPiece next)
  pub held : HoldsPart (place + 5) count next
  pub within : place + (5 + count) ≤ 2 ^ 60
  pub states : IfSome disk.content (StatesAt place count)

-- if the disk holds entries up to the place, a crash leaves at each moment just these
abbrev pub LeavesThese : ℕ → DiskState → DiskState → Type 0
LeavesThese place disk now = (head : Head) (pairs : List RecordPair) (left : List ℕ) → Holds head pairs place left disk → AtEachMoment disk now (StandsFor head pairs)

-- The entries end at the place: what followed was cut off.
pub record EndsFinding (place : ℕ) (disk now : DiskState) : Type 0 where
  pub closed : IfSome disk.content (IsClosedAt place)
  pub keeps : (head : Head) (pairs : List RecordPair) (left : List ℕ) → Holds head pairs place left disk → Keeps head pairs place now
  pub moments : LeavesThese place disk now
  pub told : IsSome now.content → IsSome disk.content
  pub near : place ≤ 2 ^ 60

-- what a book found: an entry of so many bytes, or none, and then it gets more; one that gets more has none
abbrev pub IsFoundBy : (old new : Book) → DiskState → DiskState → Option ℕ → Type 0
IsFoundBy (Kept place ahead) (Kept later next) disk now (Some count) = (later ≡ place) × FindsOne place count next disk now
IsFoundBy (Kept place ahead) (Open later) disk now None = (later ≡ place) × EndsFinding place disk now
IsFoundBy (Kept place ahead) (Kept later next) disk now None = ⊥
IsFoundBy (Kept place ahead) (Open later) disk now (Some count) = ⊥
IsFoundBy (Open place) new disk now None = new ≡ Open place
IsFoundBy (Open place) new disk now (Some count) = ⊥

-- Nothing was found: why, as far as the bytes say, and that the disk was only looked at, or was being cut after its entries.
pub record FindsNothing (place : ℕ) (disk now : DiskState) (fault : DiskFault) : Type 0 where
  pub why : IfSome disk.content (FindsNone fault place)
  pub left : OnlyLooks disk now ⊎ (IfSome disk.content (IsClosedAt place) × LeavesThese place disk now)
  pub damaged : (at : ℕ) → fault ≡ Damaged at → OnlyLooks disk now
  pub known : fault ≢ NotDisk

-- why a book found nothing
abbrev pub IsNotFoundBy : Book → DiskState → DiskState → DiskFault → Type 0
IsNotFoundBy (Kept place ahead) disk now fault = FindsNothing place disk now fault
IsNotFoundBy (Open place) disk now fault = ⊥

-- the entries of a group, which has these bytes, can be kept
abbrev pub CanKeep : List ℕ → Book → DiskState → Type 0
CanKeep group (Kept place ahead) disk = ⊥
CanKeep group (Open place) disk = (length group ≤ most_unkept) × (place ≤ 2 ^ 61) × IfSome disk.content (λ _. (head : Head) × (pairs : List RecordPair) × Keeps head pairs place disk)

-- they were kept: whichever entries have these bytes
abbrev pub AddsTo : List ℕ → (old new : Book) → DiskState → DiskState → Type 0
AddsTo group (Open from) (Open to) disk now =
    (to ≡ from + length group) × (IsSome now.content → IsSome disk.content)
    × ((more : List (Pair Record Outcome)) → All IsPair more → group ≡ flat_map entry (map records_of more) → KeepsMore more from to disk now)
AddsTo group (Open from) (Kept place ahead) disk now = ⊥
AddsTo group (Kept place ahead) new disk now = ⊥

-- a crash leaves at each moment the entries that the disk kept, with those of the group or without
abbrev pub LeavesWithOrWithout : List ℕ → Book → DiskState → DiskState → Type 0
LeavesWithOrWithout group (Kept place ahead) disk now = ⊥
LeavesWithOrWithout group (Open place) disk now =
    ReachesAtMost (place + (1 + length group)) disk now
    × ((head : Head) (pairs : List RecordPair) (more : List (Pair Record Outcome)) → Keeps head pairs place disk → All IsPair more → group ≡ flat_map entry (map records_of more) → AtEachMoment disk now (WithOrWithout head pairs (map records_of more)))

-- ---- a file that is continued

-- how a file that holds these bytes is continued: with the entries of a valid journal that it keeps, or as a new one that begins so
abbrev pub Continues : List ℕ → Start → List (Pair Record Outcome) → Market → Type 0
Continues held begin old market = IsOpening held (Legal begin old market) ⊎ (IsOpening held opening.New × (old ≡ []) × (market ≡ market_of begin))

-- The file is read along, and was only looked at since the start: these entries were read up to the place, and are a valid journal that begins so
-- and led to the market.
pub record IsReadAlong (begin : Start) (place : ℕ) (ahead : AheadState) (start now : DiskState) (pairs : List (Pair Record Outcome)) (market : Market) : Type 0 where
  pub journal : IsKeptJournal begin pairs market
  pub looks : OnlyLooks start now
  pub known : IfSome start.content (λ held. (¬ IsNewDisk held) × (¬ IsForeign held))
  pub piece : IfSome now.content (IsPiece ahead)
  pub holds : IfSome now.content (λ _. (left : List ℕ) × Holds (head_of begin) (map records_of pairs) place left now)

-- The file gets more after these entries, a valid journal that begins so and led to the market: what it held at the start, and what a crash left
-- since then.
pub record GetsMore (begin : Start) (place : ℕ) (start now : DiskState) (old : List (Pair Record Outcome)) (market : Market) : Type 0 where
  pub journal : IsKeptJournal begin old market
  pub continues : IfSome start.content (λ held. Continues held begin old market)
  pub keeps : IfSome start.content (λ _. Keeps (head_of begin) (map records_of old) place now)
  pub moments : (was : Start) (legal : List (Pair Record Outcome)) (m : Market) → HoldsLegal start was legal m → AtEachMoment start now (WhileOpening begin start legal)
  pub told : IsSome now.content → IsSome start.content
  pub near : place ≤ 2 ^ 60

-- the book of a file that is continued, after these entries
abbrev pub IsBookAfter : Start → Book → DiskState → DiskState → List (Pair Record Outcome) → Market → Type 0
IsBookAfter begin (Kept place ahead) start now pairs market = IsReadAlong begin place ahead start now pairs market
IsBookAfter begin (Open place) start now pairs market = GetsMore begin place start now pairs market
