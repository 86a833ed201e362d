-- What a disk went through: entries that are kept together after those that it keeps, or that weren't, and runs that ended.
use Rattle.std.proofs.Common.{◌≡◌, ◌⊎◌, inl, inr, ℕ, ◌+◌, ◌≤◌, List, [], ◌∷◌, ◌++◌, Option, IfSome, All, length, map, refl, sym, subst, arith}
use Rattle.std.proofs.lemmas.List.{append-nil, take_all, map-append}
use Rattle.std.proofs.lemmas.List.Elements.{All-append}
use Rattle.journal_records.specs.Pairs.{IsPair}
use Rattle.wire_records.specs.Records.{Record}
use Rattle.wire_records.specs.Commands.{Pair}
use Rattle.wire_records.specs.Versions.{IsReadAs}
use Rattle.wire_records.proofs.Readings.{reading_unique}
use Rattle.flow_orders.specs.Outcomes.{Outcome, IsAdmissibleOutcome}
use Rattle.canonical_rule.specs.Canonical.{IsCanonicalOutcome}
use Rattle.journal_records.specs.Formats.{records_of}
use Rattle.market_rules.specs.Market.{Market}
use Rattle.market_history.specs.Histories.{Start, market_of}
use Rattle.market_rules.specs.Journal.{Follows}
use Rattle.market_rules.proofs.OneJournal.{follows-append}
use Rattle.disk_edge.specs.Disks.{DiskState, IsDisk, AtEachMoment}
use Rattle.disk_edge.proofs.Moments.{weaker, then_more, at_the_end}
use Rattle.journal_disk.specs.Pairs.{RecordPair}
use Rattle.journal_disk.specs.Entries.{entries, IsNewDisk, StandsFor, WithOrWithout, Keeps}
use Rattle.journal_disk.proofs.OneList.{new_none, few_first, few_none}
use Rattle.journal_keeping.specs.Starts.{head_of}
use Rattle.journal_keeping.specs.Keeping.{IsKeptJournal, StandsForJournal, GoesOn, KeepsFirst, IsStillNew, DuringCall, AtReturn, Runs}
use Rattle.journal_keeping.specs.Beginning.{WhileOpening}
use Rattle.journal_keeping.specs.Serving.{HasKept}
use Rattle.journal_keeping.proofs.Legal.{first_wider, canonical_are_admissible}

abbrev Pairs : Type 0
Pairs = List (Pair Record Outcome)

module _ (begin : Start) where
  -- a disk that keeps entries leaves an image that represents them
  pub kept_stands : (pairs : List RecordPair) (place : ℕ) (disk : DiskState) (image : List ℕ) → Keeps (head_of begin) pairs place disk → disk.images image → StandsFor (head_of begin) pairs image
  kept_stands pairs place disk image keeps left =
      inr (record { lawful = keeps.2.lawful; each = keeps.2.each; commit = keeps.0; shut = keeps.1; rest = []; few = omega arith; encoded = keeps.2.durable image left })

  -- while a new disk stays new, it represents the old entries if the call began with them: there are none
  pub new_stands : (old : Pairs) (place : ℕ) (disk : DiskState) (image : List ℕ) → Keeps (head_of begin) (map records_of old) place disk → IsStillNew disk image → StandsForJournal begin old image
  new_stands old place disk image keeps still =
      let pairs = map records_of old in
      let few = new_none (head_of begin) pairs (entries (head_of begin) pairs ++ keeps.0 ∷ []) (subst (λ (o : Option (List ℕ)). IfSome o IsNewDisk) keeps.2.content still.0)
      (record { lawful = keeps.2.lawful; each = keeps.2.each; commit = keeps.0; shut = keeps.1; rest = []; few = omega arith; encoded = refl }) in
      inl (still.1, few_first (head_of begin) pairs few, few_none (head_of begin) pairs few)

  -- the old entries, and none of the new ones
  none_of : (old new : Pairs) (image : List ℕ) → StandsForJournal begin old image → KeepsFirst begin old new 0 0 image
  none_of old new image stands = (0, omega arith, omega arith, subst (λ (l : Pairs). StandsForJournal begin l image) (sym (append-nil old)) stands)

  -- the old entries, and all new ones
  all_of : (old new : Pairs) (image : List ℕ) → StandsForJournal begin (old ++ new) image → KeepsFirst begin old new (length new) (length new) image
  all_of old new image stands = (length new, omega arith, omega arith, subst (λ (l : Pairs). StandsForJournal begin (old ++ l) image) (sym (take_all (length new) new (omega arith))) stands)

  first_of : (old new : Pairs) (image : List ℕ) → StandsForJournal begin old image → KeepsFirst begin old new 0 (length new) image
  first_of old new image stands = first_wider begin old new 0 0 0 (length new) image (omega arith) (omega arith) (none_of old new image stands)

  -- what a crash leaves during a call of which no entry is kept yet
  opened_left : (start : DiskState) (old new : Pairs) (image : List ℕ) → WhileOpening begin start old image → start.images image ⊎ (KeepsFirst begin old new 0 (length new) image ⊎ IsStillNew start image)
  opened_left start old new image (inl early) = inl early
  opened_left start old new image (inr (inl stands)) = inr (inl (first_of old new image stands))
  opened_left start old new image (inr (inr still)) = inr (inr still)

  opened_during : (start now : DiskState) (old new : Pairs) → AtEachMoment start now (WhileOpening begin start old) → DuringCall begin start now old new
  opened_during start now old new opens = weaker start now _ _ (opened_left start old new) opens

  -- what it leaves after one
  abbrev Returned : (most : ℕ) → DiskState → (old new : Pairs) → ℕ → List ℕ → Type 0
  Returned most start old new acknowledged image =
      (start.images image × (acknowledged ≡ 0))
      ⊎ ((KeepsFirst begin old new acknowledged acknowledged image ⊎ KeepsFirst begin old new (length new) (acknowledged + most) image) ⊎ (IsStillNew start image × (acknowledged ≡ 0)))

  returned_left : (most : ℕ) (start : DiskState) (old : Pairs) (image : List ℕ) → WhileOpening begin start old image → Returned most start old [] 0 image
  returned_left most start old image (inl early) = inl (early, refl)
  returned_left most start old image (inr (inl stands)) = inr (inl (inl (none_of old [] image stands)))
  returned_left most start old image (inr (inr still)) = inr (inr (still, refl))

  -- no record yet
  pub goes_none : (old : Pairs) (before : Market) → IsKeptJournal begin old before → GoesOn begin old before [] before
  goes_none old before is = record { steps = refl; journal = subst (λ (l : Pairs). IsKeptJournal begin l before) (sym (append-nil old)) is }

  pub kept_none : (start now : DiskState) (old : Pairs) (before : Market) (place : ℕ) → IsKeptJournal begin old before → Keeps (head_of begin) (map records_of old) place now
      → AtEachMoment start now (WhileOpening begin start old) → HasKept begin start now old before place [] before
  kept_none start now old before place is keeps opens = record {
    goes_on = goes_none old before is;
    keeps = subst (λ (l : Pairs). Keeps (head_of begin) (map records_of l) place now) (sym (append-nil old)) keeps;
    during = opened_during start now old [] opens;
  }

  -- a run that ends before an entry is kept leaves the start's images, or the old entries
  pub opened_returns : (most : ℕ) (start next : DiskState) (old : Pairs) → IsDisk next → AtEachMoment start next (WhileOpening begin start old) → AtReturn most begin start next old [] 0
  opened_returns most start next old is_disk opens image left = returned_left most start old image (at_the_end start next _ is_disk opens image left)

  -- More entries that are kept together after the old ones: they fit, and follow by the canonical rule on the market.
  module _ (old more : Pairs) (before after : Market) (is : IsKeptJournal begin old before) (fits : All IsPair more) (own : Follows IsReadAs IsCanonicalOutcome before more after) where
    pub goes_more : GoesOn begin old before more after
    goes_more = record {
      steps = own;
      journal = record {
        starts = is.starts;
        each = All-append IsPair old more is.each fits;
        steps = follows-append IsReadAs reading_unique IsAdmissibleOutcome (market_of begin) before after old more is.steps (canonical_are_admissible begin old before more after is own);
      };
    }

    module _ (start next : DiskState) (moments : AtEachMoment start next (WithOrWithout (head_of begin) (map records_of old) (map records_of more))) where
      -- the entries with or without more are these, and none or all of those
      with_or_without : (image : List ℕ) → WithOrWithout (head_of begin) (map records_of old) (map records_of more) image → KeepsFirst begin old more 0 0 image ⊎ KeepsFirst begin old more (length more) (length more) image
      with_or_without image (inl without) = inl (none_of old more image without)
      with_or_without image (inr with_them) = inr (all_of old more image (subst (λ (l : List RecordPair). StandsFor (head_of begin) l image) (sym (map-append records_of old more)) with_them))

      -- what a crash leaves during the append and after it, whatever it answers
      more_left : (image : List ℕ) → KeepsFirst begin old more 0 0 image ⊎ KeepsFirst begin old more (length more) (length more) image → start.images image ⊎ (KeepsFirst begin old more 0 (length more) image ⊎ IsStillNew start image)
      more_left image (inl none) = inr (inl (first_wider begin old more 0 0 0 (length more) image (omega arith) (omega arith) none))
      more_left image (inr all) = inr (inl (first_wider begin old more (length more) (length more) 0 (length more) image (omega arith) (omega arith) all))

      more_during : DuringCall begin start next old more
      more_during = weaker start next _ _ (λ image was. more_left image (with_or_without image was)) moments

      failed_left : (most : ℕ) (image : List ℕ) → length more ≤ most → KeepsFirst begin old more 0 0 image ⊎ KeepsFirst begin old more (length more) (length more) image → Returned most start old more 0 image
      failed_left most image few (inl none) = inr (inl (inl none))
      failed_left most image few (inr all) = inr (inl (inr (first_wider begin old more (length more) (length more) (length more) (0 + most) image (omega arith) (omega (arith, few)) all)))

      -- what a run did, if it ended at an append that failed
      pub failed : (most : ℕ) → length more ≤ most → IsDisk next → Runs most begin start next old before more 0
      failed most few is_disk = record {
        now = after;
        within = omega arith;
        all_but = omega (arith, few);
        goes_on = goes_more;
        during = more_during;
        returns = λ image left. failed_left most image few (with_or_without image (at_the_end start next _ is_disk moments image left));
      }

      -- an append that succeeded
      pub kept_more : (later : ℕ) → Keeps (head_of begin) (map records_of old ++ map records_of more) later next → HasKept begin start next old before later more after
      kept_more later keeps = record {
        goes_on = goes_more;
        keeps = subst (λ (l : List RecordPair). Keeps (head_of begin) l later next) (sym (map-append records_of old more)) keeps;
        during = more_during;
      }

  -- What a run did, if it ended after its last entry was kept, and these of the entries are acknowledged.
  pub ended : (most acknowledged : ℕ) (start now : DiskState) (old : Pairs) (before : Market) (place : ℕ) (new : Pairs) (market : Market) → acknowledged ≤ length new → length new ≤ acknowledged + most
      → HasKept begin start now old before place new market → Runs most begin start now old before new acknowledged
  ended most acknowledged start now old before place new market within all_but kept = record {
    now = market;
    within = within;
    all_but = all_but;
    goes_on = kept.goes_on;
    during = kept.during;
    returns = λ image left.
        inr (inl (inr (first_wider begin old new (length new) (length new) (length new) (acknowledged + most) image (omega arith) all_but (all_of old new image (kept_stands (map records_of (old ++ new)) place now image kept.keeps left)))));
  }

  -- What a run did, if it ended before the first entry.
  pub unbegun : (most : ℕ) (start next : DiskState) (old : Pairs) (before : Market) → IsKeptJournal begin old before → IsDisk next
      → AtEachMoment start next (WhileOpening begin start old) → Runs most begin start next old before [] 0
  unbegun most start next old before is is_disk opens = record {
    now = before;
    within = omega arith;
    all_but = omega arith;
    goes_on = goes_none old before is;
    during = opened_during start next old [] opens;
    returns = opened_returns most start next old is_disk opens;
  }

  -- what a crash leaves during a call that goes on with the old entries, after another
  later_left : (first start : DiskState) (old new : Pairs) (place : ℕ) (image : List ℕ) → Keeps (head_of begin) (map records_of old) place start
      → start.images image ⊎ (KeepsFirst begin old new 0 (length new) image ⊎ IsStillNew start image) → first.images image ⊎ (KeepsFirst begin old new 0 (length new) image ⊎ IsStillNew first image)
  later_left first start old new place image keeps (inl early) = inr (inl (first_of old new image (kept_stands (map records_of old) place start image keeps early)))
  later_left first start old new place image keeps (inr (inl later)) = inr (inl later)
  later_left first start old new place image keeps (inr (inr still)) = inr (inl (first_of old new image (new_stands old place start image keeps still)))

  -- and after it
  returned_later : (most : ℕ) (first start : DiskState) (old new : Pairs) (place acknowledged : ℕ) (image : List ℕ) → Keeps (head_of begin) (map records_of old) place start
      → Returned most start old new acknowledged image → Returned most first old new acknowledged image
  returned_later most first start old new place acknowledged image keeps (inl early) =
      inr (inl (inl (first_wider begin old new 0 0 acknowledged acknowledged image (omega (arith, early.1)) (omega arith) (none_of old new image (kept_stands (map records_of old) place start image keeps early.0)))))
  returned_later most first start old new place acknowledged image keeps (inr (inl later)) = inr (inl later)
  returned_later most first start old new place acknowledged image keeps (inr (inr still)) =
      inr (inl (inl (first_wider begin old new 0 0 acknowledged acknowledged image (omega (arith, still.1)) (omega arith) (none_of old new image (new_stands old place start image keeps still.0)))))

  -- a run whose disk was opened first
  pub opened_first : (most : ℕ) (first start end : DiskState) (old : Pairs) (before : Market) (place : ℕ) (new : Pairs) (acknowledged : ℕ)
      → AtEachMoment first start (WhileOpening begin first old) → Keeps (head_of begin) (map records_of old) place start
      → Runs most begin start end old before new acknowledged → Runs most begin first end old before new acknowledged
  opened_first most first start end old before place new acknowledged opens keeps runs =
      record {
        now = runs.now;
        within = runs.within;
        all_but = runs.all_but;
        goes_on = runs.goes_on;
        during = then_more first start end _ (opened_during first start old new opens) (weaker start end _ _ (λ image was. later_left first start old new place image keeps was) runs.during);
        returns = λ image left. returned_later most first start old new place acknowledged image keeps (runs.returns image left);
      }
