-- A disk that entries were added to, and then more: what a crash leaves at each moment and at the return.
use Rattle.std.proofs.Common.{◌≡◌, ◌⊎◌, inl, inr, ℕ, ◌+◌, ◌≤◌, List, ◌++◌, IsSome, All, length, length-append, take, map, sym, ap, subst, ◌∙◌, arith, append_assoc}
use Rattle.std.proofs.Math.Seq.{take-append-add, take-append_seam}
use Rattle.wire_records.specs.Versions.{IsReadAs}
use Rattle.wire_records.proofs.Readings.{reading_unique}
use Rattle.canonical_rule.specs.Canonical.{IsCanonicalOutcome}
use Rattle.journal_records.specs.Pairs.{IsPair}
use Rattle.journal_records.specs.Formats.{records_of}
use Rattle.market_rules.specs.Market.{Market}
use Rattle.market_rules.specs.Journal.{Follows}
use Rattle.market_rules.proofs.OneJournal.{follows-append}
use Rattle.market_history.specs.Histories.{Start}
use Rattle.disk_edge.specs.Disks.{DiskState}
use Rattle.disk_edge.proofs.Moments.{weaker, then_more}
use Rattle.journal_disk.specs.Entries.{Keeps}
use Rattle.journal_keeping.specs.Starts.{head_of}
use Rattle.journal_keeping.specs.Keeping.{IsKeptJournal, StandsForJournal, GoesOn, KeepsFirst, IsStillNew, DuringCall, Runs}
use Rattle.journal_keeping.specs.Serving.{HasKept}
use Rattle.journal_keeping.specs.Private.{KeepsMore, HasAdded}
use Rattle.journal_keeping.proofs.Legal.{more_pairs_stay, first_wider}
use Rattle.journal_keeping.proofs.Serving.{kept_stands, new_stands, kept_more}
use Rattle.journal_keeping.proofs.Turns.{Pairs}

module _ (begin : Start) (start mid : DiskState) (old new : Pairs) (before m : Market) (place : ℕ) (kept : HasKept begin start mid old before place new m) where
  -- what a crash leaves of a disk that keeps entries represents them
  stands : (image : List ℕ) → mid.images image → StandsForJournal begin (old ++ new) image
  stands image left = kept_stands begin (map records_of (old ++ new)) place mid image kept.keeps left

  -- also if it is new
  still_stands : (image : List ℕ) → IsStillNew mid image → StandsForJournal begin (old ++ new) image
  still_stands image still = new_stands begin (old ++ new) place mid image kept.keeps still

  module _ (more : Pairs) where
    -- the new entries, and none of those after them
    first_of : (image : List ℕ) → StandsForJournal begin (old ++ new) image → KeepsFirst begin old (new ++ more) (length new) (length new) image
    first_of image is = (length new, omega arith, omega arith, subst (λ (l : Pairs). StandsForJournal begin (old ++ l) image) (sym (take-append_seam new more)) is)

    -- the new entries, and the first of those after them
    later_first : (least most : ℕ) (image : List ℕ) → KeepsFirst begin (old ++ new) more least most image → KeepsFirst begin old (new ++ more) (length new + least) (length new + most) image
    later_first least most image keeps = (
      length new + keeps.0,
      omega (arith, keeps.1),
      omega (arith, keeps.2),
      subst (λ (l : Pairs). StandsForJournal begin l image) (append_assoc old new (take keeps.0 more) ∙ ap (λ (l : Pairs). old ++ l) (sym (take-append-add new more keeps.0))) keeps.3,
    )

    wider : (least most low high : ℕ) (image : List ℕ) → low ≤ least → most ≤ high → KeepsFirst begin old (new ++ more) least most image → KeepsFirst begin old (new ++ more) low high image
    wider = first_wider begin old (new ++ more)

    -- during the first call
    before_left : (image : List ℕ) → start.images image ⊎ (KeepsFirst begin old new 0 (length new) image ⊎ IsStillNew start image)
        → start.images image ⊎ (KeepsFirst begin old (new ++ more) 0 (length (new ++ more)) image ⊎ IsStillNew start image)
    before_left image (inl early) = inl early
    before_left image (inr (inl first)) = inr (inl (more_pairs_stay begin old new more 0 (length new) (length (new ++ more)) image (omega arith) (omega (arith, length-append new more)) first))
    before_left image (inr (inr still)) = inr (inr still)

    -- during the second one
    after_left : (image : List ℕ) → mid.images image ⊎ (KeepsFirst begin (old ++ new) more 0 (length more) image ⊎ IsStillNew mid image)
        → start.images image ⊎ (KeepsFirst begin old (new ++ more) 0 (length (new ++ more)) image ⊎ IsStillNew start image)
    after_left image (inl early) = inr (inl (wider (length new) (length new) 0 (length (new ++ more)) image (omega arith) (omega (arith, length-append new more)) (first_of image (stands image early))))
    after_left image (inr (inl first)) = inr (inl (wider (length new + 0) (length new + length more) 0 (length (new ++ more)) image (omega arith) (omega (arith, length-append new more)) (later_first 0 (length more) image first)))
    after_left image (inr (inr still)) = inr (inl (wider (length new) (length new) 0 (length (new ++ more)) image (omega arith) (omega (arith, length-append new more)) (first_of image (still_stands image still))))

    pub during_both : (now : DiskState) → DuringCall begin mid now (old ++ new) more → DuringCall begin start now old (new ++ more)
    during_both now during = then_more start mid now _ (weaker start mid _ _ before_left kept.during) (weaker mid now _ _ after_left during)

    returned_left : (most acknowledged : ℕ) (image : List ℕ)
        → (mid.images image × (acknowledged ≡ 0))
        ⊎ ((KeepsFirst begin (old ++ new) more acknowledged acknowledged image ⊎ KeepsFirst begin (old ++ new) more (length more) (acknowledged + most) image) ⊎ (IsStillNew mid image × (acknowledged ≡ 0)))
        → KeepsFirst begin old (new ++ more) (length new + acknowledged) (length new + acknowledged) image ⊎ KeepsFirst begin old (new ++ more) (length (new ++ more)) (length new + acknowledged + most) image
    returned_left most acknowledged image (inl early) = inl (wider (length new) (length new) (length new + acknowledged) (length new + acknowledged) image (omega (arith, early.1)) (omega arith) (first_of image (stands image early.0)))
    returned_left most acknowledged image (inr (inl (inl none))) = inl (later_first acknowledged acknowledged image none)
    returned_left most acknowledged image (inr (inl (inr all))) =
        inr (wider (length new + length more) (length new + (acknowledged + most)) (length (new ++ more)) (length new + acknowledged + most) image (omega (arith, length-append new more)) (omega arith) (later_first (length more) (acknowledged + most) image all))
    returned_left most acknowledged image (inr (inr still)) = inl (wider (length new) (length new) (length new + acknowledged) (length new + acknowledged) image (omega (arith, still.1)) (omega arith) (first_of image (still_stands image still.0)))

    pub goes_both : (after : Market) → GoesOn begin (old ++ new) m more after → GoesOn begin old before (new ++ more) after
    goes_both after goes = record {
      steps = follows-append IsReadAs reading_unique IsCanonicalOutcome before m after new more kept.goes_on.steps goes.steps;
      journal = subst (λ (l : Pairs). IsKeptJournal begin l after) (append_assoc old new more) goes.journal;
    }

    -- a run after entries that were kept
    pub runs_after : (most : ℕ) (now : DiskState) (acknowledged : ℕ) → Runs most begin mid now (old ++ new) m more acknowledged → Runs most begin start now old before (new ++ more) (length new + acknowledged)
    runs_after most now acknowledged runs = record {
      now = runs.now;
      within = omega (arith, runs.within, length-append new more);
      all_but = omega (arith, runs.all_but, length-append new more);
      goes_on = goes_both runs.now runs.goes_on;
      during = during_both now runs.during;
      returns = λ image left. inr (inl (returned_left most acknowledged image (runs.returns image left)));
    }

    pub kept_both : (now : DiskState) (after : Market) (later : ℕ) → HasKept begin mid now (old ++ new) m later more after → HasKept begin start now old before later (new ++ more) after
    kept_both now after later next = record {
      goes_on = goes_both after next.goes_on;
      keeps = subst (λ (l : Pairs). Keeps (head_of begin) (map records_of l) later now) (append_assoc old new more) next.keeps;
      during = during_both now next.during;
    }

-- entries were added, and then more
pub added_more : (start mid now : DiskState) (before m after : Market) (from place later : ℕ) (new more : Pairs) → HasAdded start mid before m from place new → HasAdded mid now m after place later more → HasAdded start now before after from later (new ++ more)
added_more start mid now before m after from place later new more first second = record {
  kept = λ begin old is at.
      let kept = first.kept begin old is at in
      kept_both begin start mid old new before m place kept more now after later (second.kept begin (old ++ new) kept.goes_on.journal kept.keeps);
  told = λ some. first.told (second.told some);
}

-- entries were added, and then more of them together
pub added_together : (start now next : DiskState) (before market after : Market) (from place later : ℕ) (new more : Pairs)
    → HasAdded start now before market from place new → All IsPair more → Follows IsReadAs IsCanonicalOutcome market more after
    → KeepsMore more place later now next → (IsSome next.content → IsSome now.content) → HasAdded start next before after from later (new ++ more)
added_together start now next before market after from place later new more so fits steps keeps told =
    added_more start now next before market after from place later new more so (record {
      kept = λ begin old is at. kept_more begin old more market after is fits steps now next (keeps.moments (head_of begin) (map records_of old) at) later (keeps.keeps (head_of begin) (map records_of old) at);
      told = told;
    })
