-- What holds of kept journals, whatever the code.
use Rattle.std.specs.Prelude.{◌≡◌, ◌⊎◌, ℕ, ◌^◌, ◌≤◌, List, ◌++◌, Option, length, take}
use Rattle.wire_records.specs.Records.{Record}
use Rattle.wire_records.specs.Commands.{Pair}
use Rattle.word_driver.specs.Laws.{IsNotDenied}
use Rattle.flow_orders.specs.Outcomes.{Outcome}
use Rattle.market_rules.specs.Market.{Market}
use Rattle.market_history.specs.Histories.{Start, CanStart}
use Rattle.disk_edge.specs.Disks.{DiskState}
use Rattle.journal_keeping.specs.Keeping.{IsKeptJournal, StandsForJournal, IsLegalImage, HoldsLegal, GoesOn, KeepsFirst, DuringCall, AtReturn}
use Rattle.journal_disk.specs.Entries.{IsHead}
use Rattle.journal_disk.specs.Lengths.{LeavesAtMost}
use Rattle.journal_keeping.specs.Starts.{head_of}
use Rattle.journal_keeping.specs.Ended.{MayBeginAgain}
use Rattle.journal_keeping.specs.Lengths.{most_input, longest_stored_entry, BringsAtMost, GrowsAtMost}
use Rattle.journal_keeping.specs.Openings.{Opening, New, Legal, IsOpening}

-- the first entries of a valid journal are a valid journal
abbrev pub PrefixesAreLegal : Type 0
PrefixesAreLegal = (begin : Start) (pairs : List (Pair Record Outcome)) (market : Market) (count : ℕ)
    → IsKeptJournal begin pairs market → (before : Market) × IsKeptJournal begin (take count pairs) before

-- what an image represents doesn't change when more new entries come
abbrev pub MorePairsStay : Type 0
MorePairsStay = (begin : Start) (old new more : List (Pair Record Outcome)) (least most later : ℕ) (image : List ℕ)
    → most ≤ length new → most ≤ later → KeepsFirst begin old new least most image → KeepsFirst begin old (new ++ more) least later image

-- old entries and the first of the new ones are a valid journal
abbrev pub FirstsAreLegal : Type 0
FirstsAreLegal = (begin : Start) (old new : List (Pair Record Outcome)) (before after : Market) (least most : ℕ) (image : List ℕ)
    → GoesOn begin old before new after → KeepsFirst begin old new least most image → IsLegalImage image

-- After a crash at any moment of a call, or after its return, the disk is one that a run may begin on again.
pub record CanBeginAgain (start end : DiskState) : Type 0 where
  pub during : (begin of : Start) (old new : List (Pair Record Outcome)) (market before after : Market)
      → HoldsLegal start begin old market → GoesOn of old before new after → DuringCall of start end old new
      → (image : List ℕ) → end.since start.clock image → IsLegalImage image
  pub returned : (begin of : Start) (old new : List (Pair Record Outcome)) (market before after : Market) (most acknowledged : ℕ)
      → HoldsLegal start begin old market → GoesOn of old before new after → AtReturn most of start end old new acknowledged
      → (image : List ℕ) → end.images image → IsLegalImage image
  -- What a crash leaves can be opened, as a new disk or as a valid journal, if a crash left at most 2^59 bytes at the start, and the source
  -- has at most `most_input` bytes within the limit.
  pub opened : (limit count : ℕ) (content : Option (List ℕ)) → count ≤ most_input → BringsAtMost limit content count → LeavesAtMost (2 ^ 59) start → GrowsAtMost longest_stored_entry limit content start end → MayBeginAgain start end
      → (image : List ℕ) → end.since start.clock image → (opening : Opening) → IsOpening image opening
      → (opening ≡ New) ⊎ ((begin : Start) × (pairs : List (Pair Record Outcome)) × (market : Market) × (opening ≡ Legal begin pairs market))

-- at most 2^60 bytes that represent a valid journal are opened as that journal, or as a new disk, and as nothing else
abbrev pub LegalIsOpened : Type 0
LegalIsOpened = (begin : Start) (pairs : List (Pair Record Outcome)) (market : Market) (bytes : List ℕ) (opening : Opening)
    → IsKeptJournal begin pairs market → StandsForJournal begin pairs bytes → length bytes ≤ 2 ^ 60 → IsOpening bytes opening → (opening ≡ New) ⊎ (opening ≡ Legal begin pairs market)

-- each beginning of a history can begin a kept file: its checkpoint, if it has one, is no entry of a journal, and its length fits into four bytes
abbrev pub StartsBeginFiles : Type 0
StartsBeginFiles = (begin : Start) → CanStart begin → IsHead (head_of begin)

-- a disk's bytes are opened in at most one way
abbrev pub OneOpening : Type 0
OneOpening = (bytes : List ℕ) (a b : Opening) → IsOpening bytes a → IsOpening bytes b → a ≡ b

-- a disk's bytes are opened in some way, stated as not denied
abbrev pub SomeOpening : Type 0
SomeOpening = (bytes : List ℕ) → IsNotDenied ((opening : Opening) × IsOpening bytes opening)
