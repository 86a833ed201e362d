-- What keeping a journal does to the disk: what a crash may leave while new entries are added, and afterwards.
use Rattle.std.specs.Prelude.{◌≡◌, ◌⊎◌, ℕ, ◌+◌, ◌≤◌, List, ◌++◌, Option, Some, IfSome, All, length, map, take}
use Rattle.wire_records.specs.Records.{Record}
use Rattle.wire_records.specs.Commands.{Pair}
use Rattle.wire_records.specs.Versions.{IsReadAs}
use Rattle.flow_orders.specs.Outcomes.{Outcome, IsAdmissibleOutcome}
use Rattle.canonical_rule.specs.Canonical.{IsCanonicalOutcome}
use Rattle.journal_records.specs.Pairs.{IsPair}
use Rattle.journal_records.specs.Formats.{records_of}
use Rattle.market_rules.specs.Market.{Market}
use Rattle.market_history.specs.Histories.{Start, Empty, market_of, CanStart}
use Rattle.market_rules.specs.Journal.{Follows}
use Rattle.disk_edge.specs.Disks.{DiskState, AtEachMoment}
use Rattle.disk_edge.specs.Images.{Images}
use Rattle.journal_disk.specs.Entries.{IsNewDisk, StandsFor}
use Rattle.journal_keeping.specs.Inputs.{InputStarts, InputBegins}
use Rattle.journal_keeping.specs.Starts.{version_of, head_of}

-- the entries are a valid journal that begins so, and lead to this market
pub record IsKeptJournal (begin : Start) (pairs : List (Pair Record Outcome)) (market : Market) : Type 0 where
  pub starts : CanStart begin
  pub each : All IsPair pairs
  pub steps : Follows IsReadAs IsAdmissibleOutcome (market_of begin) pairs market

-- the image represents these entries of a journal that begins so
abbrev pub StandsForJournal : Start → List (Pair Record Outcome) → Images
StandsForJournal begin pairs image = StandsFor (head_of begin) (map records_of pairs) image

-- the image represents the entries of a valid journal
abbrev pub IsLegalImage : Images
IsLegalImage image = (begin : Start) × (pairs : List (Pair Record Outcome)) × (market : Market) × IsKeptJournal begin pairs market × StandsForJournal begin pairs image

-- A disk that a run may begin on: its content is known and represents these entries of a valid journal, and any image that a crash may leave
-- represents a valid journal too, not always that one. A new disk has no checkpoint and no entries, and may be of any version.
pub record HoldsLegal (disk : DiskState) (begin : Start) (old : List (Pair Record Outcome)) (market : Market) : Type 0 where
  pub bytes : List ℕ
  pub told : disk.content ≡ Some bytes
  pub journal : IsKeptJournal begin old market
  pub stands : StandsForJournal begin old bytes
  pub each : (image : List ℕ) → disk.images image → IsLegalImage image

-- How the journal that a call continues begins, in which market, and how its input begins. It begins as that of the old entries, in the
-- market after them, and the input is to be one for its version; or on a new disk it begins as the input does, within the limit.
abbrev pub GoesOnIn : InputStarts → ℕ → Option (List ℕ) → DiskState → Start → Market → Start → Market → Start → Type 0
GoesOnIn starts limit content start begin market of from input =
    ((of ≡ begin) × (from ≡ market) × (input ≡ Empty (version_of begin)))
    ⊎ (IfSome start.content IsNewDisk × (from ≡ market_of of) × (input ≡ of) × starts.MayBegin of × InputBegins starts limit content of)

-- The new entries follow by the canonical rule on the market after the old entries, and are one valid journal together with them.
pub record GoesOn (begin : Start) (old : List (Pair Record Outcome)) (before : Market) (new : List (Pair Record Outcome)) (after : Market) : Type 0 where
  pub steps : Follows IsReadAs IsCanonicalOutcome before new after
  pub journal : IsKeptJournal begin (old ++ new) after

-- the image represents the old entries and then the first `count` of the new ones, with `count` between `least` and `most`
abbrev pub KeepsFirst : Start → List (Pair Record Outcome) → List (Pair Record Outcome) → ℕ → ℕ → Images
KeepsFirst begin old new least most image = (count : ℕ) × (least ≤ count) × (count ≤ most) × StandsForJournal begin (old ++ take count new) image

-- the disk was new at the start, and the image is that of a new disk
abbrev pub IsStillNew : DiskState → Images
IsStillNew start image = IfSome start.content IsNewDisk × IsNewDisk image

-- At each moment of the call a crash leaves an image that was there at its start, or the old entries and the first of the new ones; or a new
-- disk, if the call began on one.
abbrev pub DuringCall : Start → DiskState → DiskState → List (Pair Record Outcome) → List (Pair Record Outcome) → Type 0
DuringCall begin start end old new =
    AtEachMoment start end (λ image. start.images image ⊎ (KeepsFirst begin old new 0 (length new) image ⊎ IsStillNew start image))

-- After the call a crash leaves the old entries and each acknowledged one, with none of the other new ones or with all of them, which are at most so
-- many; or, if no entry was acknowledged, an image that was there at its start, or a new disk if the call began on one.
abbrev pub AtReturn : (most : ℕ) → Start → DiskState → DiskState → List (Pair Record Outcome) → List (Pair Record Outcome) → ℕ → Type 0
AtReturn most begin start end old new acknowledged =
    (image : List ℕ) → end.images image
    → (start.images image × (acknowledged ≡ 0))
    ⊎ ((KeepsFirst begin old new acknowledged acknowledged image ⊎ KeepsFirst begin old new (length new) (acknowledged + most) image) ⊎ (IsStillNew start image × (acknowledged ≡ 0)))

-- What a run does to the disk: these entries were added, and acknowledged, all of them or all but the last `most`.
pub record Runs (most : ℕ) (begin : Start) (start end : DiskState) (old : List (Pair Record Outcome)) (market : Market) (new : List (Pair Record Outcome)) (acknowledged : ℕ) : Type 0 where
  pub now : Market
  pub within : acknowledged ≤ length new
  pub all_but : length new ≤ acknowledged + most
  pub goes_on : GoesOn begin old market new now
  pub during : DuringCall begin start end old new
  pub returns : AtReturn most begin start end old new acknowledged
