-- For private functions alone: what opening a disk and a source results in.
use Rattle.std.specs.Prelude.{◌≡◌, ◌⊎◌, ◌+◌, ◌*◌, ◌^◌, ◌≤◌, ℕ, List, [], ◌∷◌, ◌++◌, length, map, Option, None, Some, IfSome, IsSome, ⊤}
use Rattle.flow_io.specs.Streams.{Takes, TakesAtMost}
use Rattle.flow_io.specs.Windows.{WindowState}
use Rattle.wire_records.specs.Records.{Record, longest_record}
use Rattle.wire_records.specs.Commands.{Pair}
use Rattle.wire_records.specs.Grammars.{BeginsWith}
use Rattle.wire_records.specs.declared.version.Version.{Version}
use Rattle.flow_orders.specs.Outcomes.{Outcome}
use Rattle.journal_records.specs.Formats.{records_of}
use Rattle.market_rules.specs.Market.{Market}
use Rattle.market_snapshot.specs.Checkpoints.{checkpoint_bytes, IsCheckpoint}
use Rattle.market_history.specs.Histories.{Start, Empty, Kept, market_of, CanStart}
use Rattle.disk_edge.specs.Disks.{DiskState, AtEachMoment}
use Rattle.disk_edge.specs.Images.{Images, LeavesOnly}
use Rattle.journal_disk.specs.Entries.{framed, Holds, EndsAt, Keeps, IsHead, entries}
use Rattle.journal_disk.specs.Lengths.{HasAtMost, LeavesAtMost}
use Rattle.journal_disk.specs.Looking.{OnlyLooks}
use Rattle.journal_disk.specs.Stepping.{IsDamagedAt}
use Rattle.journal_keeping.specs.Inputs.{InputStarts}
use Rattle.journal_keeping.specs.Taking.{InputFormat, IsNearStart, NotTaken, IsAfterStart}
use Rattle.journal_keeping.specs.Starts.{version_of, head_of, source_start, sources}
use Rattle.journal_keeping.specs.Keeping.{IsKeptJournal, StandsForJournal, HoldsLegal, GoesOnIn, IsStillNew}
use Rattle.journal_keeping.specs.Openings.{Legal, IsOpening, OpensAs, KeepNone}
use Rattle.journal_keeping.specs.Openings as opening
use Rattle.journal_keeping.specs.Dialogs.{KeepsJust}
use Rattle.journal_keeping.specs.Lengths.{GrowsAtMost}
use Rattle.journal_keeping.specs.Making.{IsMadeAfterStart}
use Rattle.journal_keeping.specs.Ended.{IsRefused}
use Rattle.journal_keeping.specs.declared.fault.OpenFault.{OpenFault}
use Rattle.journal_keeping.specs.declared.fault.OpenFault.TheVariants as unopened
use Rattle.journal_keeping.specs.declared.fault.BeginFault.{BeginFault}
use Rattle.journal_keeping.specs.declared.fault.BeginFault.TheVariants.{Open, Input, Make}

-- the disk's bytes were opened as a valid journal of this version, with this market and so many entries, and the commit byte at the place, after
-- its entries, isn't set
abbrev pub IsOpened : Version → List ℕ → Market → (count place : ℕ) → DiskState → Type 0
IsOpened version held market count place now =
    (begin : Start) × (old : List (Pair Record Outcome)) × (version_of begin ≡ version) × IsOpening held (Legal begin old market) × (count ≡ length old)
    × EndsAt (head_of begin) (map records_of old) place now

-- so the disk's bytes were opened, and it holds nothing after that commit byte
abbrev pub IsKeptOn : Version → List ℕ → Market → (count place : ℕ) → DiskState → Type 0
IsKeptOn version held market count place now =
    (begin : Start) × (old : List (Pair Record Outcome)) × (version_of begin ≡ version) × IsOpening held (Legal begin old market) × (count ≡ length old)
    × Keeps (head_of begin) (map records_of old) place now

-- the journal was opened, which has so many entries, and the disk holds nothing after its commit byte; or the disk was new, and was made one that begins so
abbrev pub IsBegun : InputStarts → List ℕ → Start → Start → Market → (count place : ℕ) → DiskState → Type 0
IsBegun starts held begin input market count place now =
    (old : List (Pair Record Outcome)) × OpensAs starts held begin old market input × (count ≡ length old) × Keeps (head_of begin) (map records_of old) place now

-- A window is after the beginning of a source, and was filled no further than the limit.
pub record IsAfterSource (limit : ℕ) (input : Start) (window : WindowState) (before after : Option (List ℕ)) : Type 0 where
  pub limited : window.limit ≡ limit
  pub place : window.place ≡ length (source_start input)
  pub room : window.room ≡ longest_record
  pub over : window.over ≡ None
  pub first : List ℕ
  pub takes : Takes before after first
  pub magic : BeginsWith sources.magics first input window.held
  pub few : length first ≤ limit
  pub held : length window.held ≤ 1030

-- the bytes of a disk begin with the magic of a version, and its first entry holds the checkpoint of this market of the version
pub record HasFirst (market : Market) (bytes : List ℕ) : Type 0 where
  pub is_one : IsCheckpoint market (checkpoint_bytes market)
  pub lawful : IsHead (head_of (Kept market))
  pub rest : List ℕ
  pub encoded : bytes ≡ entries (head_of (Kept market)) [] ++ rest

-- A disk of a version, which holds these bytes, begins in this market; its entries begin at the place. The first entry isn't left out if it
-- holds a checkpoint of the version.
pub record BeginsAt (version : Version) (bytes : List ℕ) (market : Market) (place : ℕ) (disk : DiskState) : Type 0 where
  pub begin : Start
  pub starts : CanStart begin
  pub market_is : market ≡ market_of begin
  pub version_is : version_of begin ≡ version
  pub rest : List ℕ
  pub holds : Holds (head_of begin) [] place rest disk
  pub unfit : place ≡ 8 → (first : Market) → ¬ HasFirst first bytes

-- why no beginning was found: the first entry isn't an entry, and holds no checkpoint of the disk's version
abbrev pub StopsFirst : OpenFault → List ℕ → Type 0
StopsFirst (unopened.Damaged place) bytes = (place ≡ 8) × IsDamagedAt 8 bytes × ((first : Market) → ¬ HasFirst first bytes)
StopsFirst unopened.Disk bytes = ⊤
StopsFirst unopened.Memory bytes = ⊤
StopsFirst unopened.NotDisk bytes = ⊥
StopsFirst (unopened.Rejected number) bytes = ⊥

-- a first entry as it is stored, with an unset commit byte after it, or nothing if a journal begins without a checkpoint
abbrev pub IsStored : Start → List ℕ → Type 0
IsStored (Empty version) stored = stored ≡ []
IsStored (Kept market) stored = stored ≡ framed (checkpoint_bytes market) ++ 0 ∷ []

-- The beginning of a source was taken: a window follows it, this is the market in which the journal begins, and its first entry as stored.
pub record OpensStart (limit : ℕ) (market : Market) (stored : List ℕ) (window : WindowState) (before after : Option (List ℕ)) : Type 0 where
  pub begin : Start
  pub following : IsAfterSource limit begin window before after
  pub market_is : market ≡ market_of begin
  pub stored_is : IsStored begin stored

-- what a fault at the opening of a disk says of its bytes
abbrev pub OpensNot : List ℕ → DiskState → OpenFault → Type 0
OpensNot held end unopened.NotDisk = IsRefused held opening.Foreign end
OpensNot held end (unopened.Damaged place) = IsRefused held (opening.Damaged place) end
OpensNot held end (unopened.Rejected number) = IsRefused held (opening.Rejected number) end
OpensNot held end unopened.Disk = ⊤
OpensNot held end unopened.Memory = ⊤

-- the disk held the bytes of a valid journal, whose version is so, and keeps its entries
abbrev pub StaysKept : List ℕ → DiskState → (Version → Type 0) → Type 0
StaysKept held end Are =
    (begin : Start) × (old : List (Pair Record Outcome)) × (market : Market) × IsOpening held (Legal begin old market) × Are (version_of begin)
    × KeepsJust end begin old

-- what a crash leaves while a disk is opened: what it might have left before, or the old entries of the journal that the call continues; or a
-- new disk, if it was new
abbrev pub WhileOpening : Start → DiskState → List (Pair Record Outcome) → Images
WhileOpening begin start old image = start.images image ⊎ (StandsForJournal begin old image ⊎ IsStillNew start image)

-- Opening leaves no more than the old entries, or what a new disk begins with.
pub record OpensSafely (starts : InputStarts) (limit : ℕ) (content : Option (List ℕ)) (start end : DiskState) (begin : Start) (old : List (Pair Record Outcome)) (market : Market) : Type 0 where
  pub of : Start
  pub from : Market
  pub input : Start
  pub goes : GoesOnIn starts limit content start begin market of from input
  pub journal : IsKeptJournal of old from
  pub moments : AtEachMoment start end (WhileOpening of start old)

module _ (format : InputFormat) (limit : ℕ) where
  -- The beginning of an input for a new disk was taken: a window follows it, this is the market in which the journal begins, and its first entry
  -- as stored.
  pub record TakesStart (market : Market) (stored : List ℕ) (window : WindowState) (before after : Option (List ℕ)) : Type 0 where
    pub begin : Start
    pub may : format.starts.MayBegin begin
    pub following : IsAfterStart format limit begin window before after
    pub market_is : market ≡ market_of begin
    pub stored_is : IsStored begin stored
    pub few : length stored ≤ 2 * length (format.encode begin)

  -- why nothing was served, if the disk held these bytes: the disk is refused, or the input doesn't begin as it should
  abbrev pub NotBegun : List ℕ → (content left : Option (List ℕ)) → DiskState → BeginFault → Type 0
  NotBegun held content left end (Open fault) = OpensNot held end fault
  NotBegun held content left end (Input fault) =
      StaysKept held end (λ version. NotTaken format limit (Some version) content left fault)
      ⊎ (IsOpening held opening.New × (end.content ≡ Some held) × LeavesOnly end.images held × NotTaken format limit None content left fault)
  NotBegun held content left end Make = IsOpening held opening.New

  -- how much of the input was taken if nothing was served
  abbrev pub Unread : (content left : Option (List ℕ)) → BeginFault → Type 0
  Unread content left (Open fault) = left ≡ content
  Unread content left (Input fault) = (wanted : Option Version) × NotTaken format limit wanted content left fault
  Unread content left Make = IfSome content (λ bytes. IsNearStart format limit bytes left)

  -- Nothing was served: why, what was taken of the input, and what happened to the disk.
  pub record HasNotBegun (start end : DiskState) (before after : Option (List ℕ)) (fault : BeginFault) : Type 0 where
    pub refused : IfSome start.content (λ held. NotBegun held before after end fault)
    pub unread : Unread before after fault
    pub taken : TakesAtMost before after (limit + 1)
    pub looks : IfSome start.content (λ held. KeepNone held → OnlyLooks start end)
    pub safe : (was : Start) (old : List (Pair Record Outcome)) (market : Market) → HoldsLegal start was old market → OpensSafely format.starts limit before start end was old market
    pub lengths : GrowsAtMost 2 limit before start end
    pub made : IfSome start.content (λ held. IsMadeAfterStart format.starts limit held start end before after)

  -- The disk and the input were opened: how the journal and the input begin, what was opened, what a crash leaves meanwhile, and how much
  -- room there is for more.
  pub record HasBegun (start end : DiskState) (window : WindowState) (before after : Option (List ℕ)) (market : Market) (count place : ℕ) : Type 0 where
    pub begin : Start
    pub input : Start
    pub following : IsAfterStart format limit input window before after
    pub begun : IfSome start.content (λ held. IsBegun format.starts held begin input market count place end)
    pub moments : (was : Start) (old : List (Pair Record Outcome)) (m : Market) → HoldsLegal start was old m → AtEachMoment start end (WhileOpening begin start old)
    pub lengths : (most : ℕ) → 9 ≤ most → LeavesAtMost most start → AtEachMoment start end (HasAtMost (most + 2 * length (format.encode input)))
    pub told : IsSome end.content → IsSome start.content
    pub orders : market.next_order ≤ place + 2 ^ 63
    pub counted : count ≤ place
    pub few : place ≤ 2 ^ 60
