-- A file that keeps no valid journal, and isn't new: what is so of no such file, and that such a file was only looked at.
use Rattle.std.proofs.Common.{◌≡◌, inl, inr, ℕ, List, Option, None, Some, IfSome, map, refl, subst}
use Rattle.journal_records.specs.Formats.{records_of}
use Rattle.market_rules.specs.Market.{Market}
use Rattle.market_history.specs.Histories.{Start}
use Rattle.disk_edge.specs.Disks.{DiskState}
use Rattle.journal_disk.specs.Entries.{IsNewDisk, Holds}
use Rattle.journal_disk.specs.Recovering.{IsForeign}
use Rattle.journal_disk.specs.Ahead.{AheadState}
use Rattle.journal_disk.specs.Looking.{OnlyLooks}
use Rattle.journal_disk.specs.Stepping.{IsClosedAt}
use Rattle.journal_disk.proofs.GoingOn.{looks_more}
use Rattle.journal_keeping.specs.Starts.{head_of}
use Rattle.journal_keeping.specs.Openings.{KeepNone}
use Rattle.journal_keeping.proofs.Begun.{untouched_so}
use Rattle.journal_keeping.proofs.Counts.{if_some}
use Rattle.desk_opening.specs.Books.{Continues, IsReadAlong}
use Rattle.desk_opening.proofs.Along.{opens_so}
use Rattle.desk_keeping.specs.Hosting.{Entries}
use Rattle.desk_keeping.specs.Private.{IsLeftAlone}

-- a file that is continued isn't such a one
pub none_continued : (content : Option (List ℕ)) (begin : Start) (old : Entries) (market : Market) (P : Type 0) → IfSome content (λ held. Continues held begin old market) → IfSome content (λ held. KeepNone held → P)
none_continued None begin old market P continues = tt
none_continued (Some held) begin old market P (inl legal) = λ none. absurd (none.1 begin old market legal)
none_continued (Some held) begin old market P (inr is_new) = λ none. absurd (none.0 is_new.0)

-- nor is one that was read along and has no more entries
pub none_closed : (begin : Start) (place : ℕ) (ahead : AheadState) (disk : DiskState) (pairs : Entries) (market : Market) → IsReadAlong begin place ahead disk disk pairs market → IfSome disk.content (IsClosedAt place) → (P : Type 0)
    → IfSome disk.content (λ held. KeepNone held → P)
none_closed begin place ahead disk pairs market along closed P = by disk.content refl along.holds along.known
  where
    by : (o : Option (List ℕ)) → disk.content ≡ o → IfSome o (λ _. (left : List ℕ) × Holds (head_of begin) (map records_of pairs) place left disk) → IfSome o (λ held. (¬ IsNewDisk held) × (¬ IsForeign held)) → IfSome o (λ held. KeepNone held → P)
    by None told holds known = tt
    by (Some held) told holds known = λ none. absurd (none.1 begin pairs market (opens_so begin disk disk pairs market place ahead along closed held told holds known))

-- it was only looked at
pub looked_alone : (start now : DiskState) → OnlyLooks start now → IsLeftAlone start now
looked_alone start now looks = untouched_so start.content (OnlyLooks start now) looks

-- it was before, and then left alone
pub alone_later : (start mid now : DiskState) → OnlyLooks start mid → IsLeftAlone mid now → IsLeftAlone start now
alone_later start mid now looks alone =
    if_some start.content _ _ (λ (held : List ℕ) then none. looks_more start mid now looks (then none))
    (subst (λ (o : Option (List ℕ)). IfSome o (λ held. KeepNone held → OnlyLooks mid now)) looks.content alone)
