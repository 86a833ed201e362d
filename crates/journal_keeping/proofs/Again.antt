-- What a run leaves is a disk that a run may begin on, and that can be opened.
use Rattle.std.proofs.Common.{◌≡◌, ℕ, List, [], Option, Some, None, IfSome, inl, inr, ⊎_elim, ◌+◌, ◌^◌, length, refl, arith}
use Rattle.wire_records.specs.declared.version.Version.TheVariants.{One}
use Rattle.market_rules.specs.Market.{Market, empty_market}
use Rattle.market_history.specs.Histories.{Start, Empty}
use Rattle.disk_edge.specs.Disks.{DiskState, IsDisk}
use Rattle.journal_disk.specs.Entries.{IsNewDisk}
use Rattle.journal_keeping.specs.Laws.{CanBeginAgain}
use Rattle.journal_keeping.specs.Keeping.{IsLegalImage, HoldsLegal, Runs}
use Rattle.journal_keeping.specs.Ended.{MayBeginAgain}
use Rattle.journal_keeping.proofs.Auditing.{none_read}
use Rattle.journal_keeping.proofs.Legal.{firsts_are_legal}
use Rattle.journal_keeping.proofs.Opened.{legal_is_opened}
use Rattle.journal_keeping.proofs.Turns.{Pairs}

-- a new disk represents a journal without entries
new_is_legal : (image : List ℕ) → IsNewDisk image → IsLegalImage image
new_is_legal image is_new = (Empty One, [], empty_market One, none_read (Empty One) (empty_market One) tt refl, inl (is_new, refl, refl))

pub can_begin_again : (start end : DiskState) → CanBeginAgain start end
can_begin_again start end = record {
  during = λ begin of old new market before after holds on run image left.
      ⊎_elim (λ early. holds.each image early) (λ later. ⊎_elim (λ keeps. firsts_are_legal of old new before after 0 (length new) image on keeps) (λ still. new_is_legal image still.1) later) (run.each image left);
  returned = λ begin of old new market before after most acknowledged holds on returns image left.
      ⊎_elim (λ early. holds.each image early.0)
      (λ later.
      ⊎_elim (⊎_elim (firsts_are_legal of old new before after acknowledged acknowledged image on) (firsts_are_legal of old new before after (length new) (acknowledged + most) image on)) (λ still. new_is_legal image still.0.1) later) (returns image left);
  opened = λ limit count content few brings short grows again image left opens is.
      let legal = again.stopped image left in
      let size = (grows (2 ^ 59) count (omega arith) short brings).each image left in
      ⊎_elim (λ new. inl new) (λ kept. inr (legal.0, legal.1, legal.2, kept))
      (legal_is_opened legal.0 legal.1 legal.2 image opens legal.3 legal.4 (omega (arith, size, few)) is);
}

legal_again : (end : DiskState) (content : Option (List ℕ)) → end.content ≡ content → IfSome content end.images → ((image : List ℕ) → end.images image → IsLegalImage image)
    → IfSome content (λ bytes. (begin : Start) × (pairs : Pairs) × (market : Market) × HoldsLegal end begin pairs market)
legal_again end None is left each = tt
legal_again end (Some bytes) is left each =
    let here = each bytes left in
    (here.0, here.1, here.2, record { bytes = bytes; told = is; journal = here.3; stands = here.4; each = each })

-- after a run
pub after_run : (most : ℕ) (begin of : Start) (start end : DiskState) (old new : Pairs) (market from : Market) (acknowledged : ℕ) → HoldsLegal start begin old market → IsDisk end → Runs most of start end old from new acknowledged → MayBeginAgain start end
after_run most begin of start end old new market from acknowledged legal is_disk runs =
    let returned = (can_begin_again start end).returned begin of old new market from runs.now most acknowledged legal runs.goes_on runs.returns in
    record {
      stopped = (can_begin_again start end).during begin of old new market from runs.now legal runs.goes_on runs.during;
      returned = returned;
      told = legal_again end end.content refl is_disk.content returned;
    }
