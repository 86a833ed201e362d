-- What became of the file where hosting ended: it was read along only, or keeps entries, and others waited.
use Rattle.std.proofs.Common.{◌≡◌, ◌⊎◌, inl, inr, ℕ, ◌+◌, ◌-◌, ◌<◌, ◌≤◌, List, [], ◌∷◌, ◌++◌, Option, Some, None, IfSome, IsSome, length, length-append, map, take, drop, refl, sym, ap, subst, ◌∙◌, arith, append_assoc}
use Rattle.std.specs.Prelude.{All}
use Rattle.std.proofs.lemmas.List.{append-nil, map-append, take-map, take-append-drop}
use Rattle.std.proofs.lemmas.List.Elements.{All-nil}
use Rattle.std.proofs.Math.Seq.{take-append_seam}
use Rattle.wire_records.specs.Versions.{IsReadAs}
use Rattle.wire_records.proofs.Readings.{reading_unique}
use Rattle.canonical_rule.specs.Canonical.{IsCanonicalOutcome}
use Rattle.wire_records.specs.Commands.{Pair}
use Rattle.wire_records.specs.Records.{Record}
use Rattle.flow_orders.specs.Outcomes.{Outcome}
use Rattle.journal_records.specs.Pairs.{IsPair}
use Rattle.journal_records.specs.Formats.{records_of}
use Rattle.market_rules.specs.Market.{Market}
use Rattle.market_rules.proofs.OneJournal.{follows-append}
use Rattle.market_history.specs.Histories.{Start, Empty, market_of}
use Rattle.disk_edge.specs.Disks.{DiskState, IsDisk, AtEachMoment}
use Rattle.disk_edge.proofs.Moments.{no_call, at_the_end, weaker}
use Rattle.journal_disk.specs.Pairs.{RecordPair}
use Rattle.journal_disk.specs.Entries.{Head, entries, IsNewDisk, HasEntries, StandsFor, WithOrWithout, Holds, Keeps, most_unkept}
use Rattle.journal_disk.specs.Recovering.{IsForeign}
use Rattle.journal_disk.specs.Ahead.{AheadState}
use Rattle.journal_disk.proofs.Excluding.{prefix_of}
use Rattle.journal_keeping.specs.Starts.{head_of}
use Rattle.journal_keeping.specs.Keeping.{IsKeptJournal, StandsForJournal, KeepsFirst, HoldsLegal, GoesOn, DuringCall, Runs}
use Rattle.journal_keeping.specs.Beginning.{WhileOpening, HasFirst}
use Rattle.journal_keeping.specs.Openings.{IsOpening}
use Rattle.journal_keeping.specs.Openings as opening
use Rattle.journal_keeping.specs.Serving.{HasKept}
use Rattle.journal_keeping.specs.Private.{KeepsMore}
use Rattle.journal_keeping.proofs.Beginnings.{IsBare, begin_alike, bare_new}
use Rattle.journal_keeping.proofs.Begun.{looks_first, opened_old, new_again}
use Rattle.journal_keeping.proofs.Legal.{prefixes_are_legal}
use Rattle.journal_keeping.proofs.Opened.{has_them, one_kept}
use Rattle.journal_keeping.proofs.Serving.{kept_stands, goes_more, failed, kept_more, unbegun}
use Rattle.journal_keeping.proofs.Adding.{runs_after, kept_both}
use Rattle.desk_opening.specs.Books.{IsReadAlong, Continues}
use Rattle.desk_opening.specs.Openings.{BeginsAlone}
use Rattle.desk_keeping.specs.Hosting.{Entries, LeavesWholeLines}
use Rattle.desk_keeping.specs.Private.{stored, Appends}

-- What became of a file that held these old entries: these lines asked for these, of which the first `safe` are in the file.
pub record EndsFile (begin was : Start) (start end : DiskState) (old : Entries) (market : Market) (lines : List (List ℕ)) (pairs : Entries) (safe : ℕ) : Type 0 where
  pub from : Market
  pub continues : ((begin ≡ was) × (from ≡ market)) ⊎ (IfSome start.content IsNewDisk × (from ≡ market_of begin))
  pub new : Entries
  pub acknowledged : ℕ
  pub runs : Runs most_unkept begin start end old from new acknowledged
  pub whole : AtEachMoment start end (LeavesWholeLines begin lines start old)
  pub parts : (pairs ≡ old ++ new) ⊎ ((new ≡ []) × (others : Entries) × (old ≡ pairs ++ others))
  pub within : safe ≤ length old + acknowledged
  pub most : acknowledged ≤ safe - length old
  pub durable : (image : List ℕ) → end.images image → KeepsFirst begin [] (old ++ new) safe (length (old ++ new)) image

-- these are the first of all entries
kept_first : (begin : Start) (all first rest : Entries) (safe : ℕ) (image : List ℕ) → all ≡ first ++ rest → safe ≤ length first → StandsForJournal begin first image → KeepsFirst begin [] all safe (length all) image
kept_first begin all first rest safe image is few stands = (
  length first,
  few,
  omega (arith, ap length is, length-append first rest),
  subst (λ (l : Entries). StandsForJournal begin l image) (sym (ap (take (length first)) is ∙ take-append_seam first rest)) stands,
)

-- what follows if a content is known
over : (o : Option (List ℕ)) (P Q : Type 0) → (P → Q) → IfSome o (λ _. P) → IfSome o (λ _. Q)
over None P Q f p = tt
over (Some bytes) P Q f p = f p

module _ (begin was : Start) (start : DiskState) (old : Entries) (m : Market) (holds : HoldsLegal start was old m) where
  -- what is so of the content that is known
  known_so : (P : List ℕ → Type 0) → IfSome start.content P → P holds.bytes
  known_so P is = subst (λ (o : Option (List ℕ)). IfSome o P) holds.told is

  -- a file is continued with the entries of the journal that it held, or it was new
  pub continued_old : (kept : Entries) (opened : Market) → IfSome start.content (λ held. Continues held begin kept opened)
      → (old ≡ kept) × (((begin ≡ was) × (opened ≡ m)) ⊎ (IfSome start.content IsNewDisk × (opened ≡ market_of begin)))
  continued_old kept opened continues = by (known_so (λ held. Continues held begin kept opened) continues)
    where
      by : Continues holds.bytes begin kept opened → (old ≡ kept) × (((begin ≡ was) × (opened ≡ m)) ⊎ (IfSome start.content IsNewDisk × (opened ≡ market_of begin)))
      by (inl is) =
          let same = opened_old start was old m holds holds.bytes holds.told begin kept opened is in
          (same.1, inl (sym same.0, sym same.2))
      by (inr (is, none, there)) = (
        new_again start was old m holds holds.bytes holds.told is.0 ∙ sym none,
        inr (subst (λ (o : Option (List ℕ)). IfSome o IsNewDisk) (sym holds.told) is.0, there),
      )

  -- ---- a file that is read along

  module _ (place : ℕ) (ahead : AheadState) (now : DiskState) (safe : Entries) (market : Market) (along : IsReadAlong begin place ahead start now safe market) where
    told_now : now.content ≡ Some holds.bytes
    told_now = along.looks.content ∙ holds.told

    pub is_known : (¬ IsNewDisk holds.bytes) × (¬ IsForeign holds.bytes)
    is_known = known_so (λ held. (¬ IsNewDisk held) × (¬ IsForeign held)) along.known

    held_now : (left : List ℕ) × Holds (head_of begin) (map records_of safe) place left now
    held_now = subst (λ (o : Option (List ℕ)). IfSome o (λ _. (left : List ℕ) × Holds (head_of begin) (map records_of safe) place left now)) told_now along.holds

    encoded : holds.bytes ≡ entries (head_of begin) (map records_of safe) ++ held_now.0
    encoded = let both : Some holds.bytes ≡ Some (entries (head_of begin) (map records_of safe) ++ held_now.0) = sym told_now ∙ held_now.1.content in cc

    has : HasEntries (head_of was) (map records_of old) holds.bytes
    has = has_them (head_of was) (map records_of old) holds.bytes is_known.0 holds.stands

    module _ (alone : IfSome start.content (BeginsAlone begin)) where
      -- it begins as the journal that it held
      pub same_begin : begin ≡ was
      same_begin =
          by (begin_alike holds.bytes begin was (map records_of safe) (map records_of old) held_now.0 (has.commit ∷ has.rest) along.journal.starts holds.journal.starts held_now.1.lawful has.lawful held_now.1.each has.each encoded has.encoded)
        where
          by : (begin ≡ was) ⊎ ((IsBare begin (map records_of safe) × (n : Market) × HasFirst n holds.bytes) ⊎ (IsBare was (map records_of old) × (n : Market) × HasFirst n holds.bytes)) → begin ≡ was
          by (inl same) = same
          by (inr (inl (bare, first, is))) =
              let not : BeginsAlone (Empty bare.0) holds.bytes = subst (λ (b : Start). BeginsAlone b holds.bytes) bare.1 (known_so (BeginsAlone begin) alone) in
              absurd (not is_known.0 first is)
          by (inr (inr (bare, first, is))) = absurd (is_known.0 (bare_new was (map records_of old) holds.bytes bare has))

      -- its old entries begin with those that were read
      pub old_parts : (others : Entries) × (old ≡ safe ++ others)
      old_parts =
          let count = length (map records_of safe) in
          let whole : holds.bytes ≡ entries (head_of was) (map records_of safe) ++ held_now.0 = encoded ∙ ap (λ (b : Start). entries (head_of b) (map records_of safe) ++ held_now.0) same_begin in
          let found = prefix_of (head_of was) (map records_of safe) (map records_of old) held_now.0 holds.bytes held_now.1.each whole has in
          let legal = prefixes_are_legal was old m count holds.journal in
          let alike : map records_of safe ≡ map records_of (take count old) = sym (take-append_seam (map records_of safe) found.0) ∙ ap (take count) (sym found.1) ∙ take-map records_of count old in
          let same = one_kept begin safe market along.journal (take count old) legal.0 (subst (λ (b : Start). IsKeptJournal b (take count old) legal.0) (sym same_begin) legal.1) alike in
          (drop count old, sym (take-append-drop count old) ∙ ap (λ (l : Entries). l ++ drop count old) (sym same.0))

      -- what a crash leaves is what it kept
      kept_whole : (image : List ℕ) → WhileOpening begin now old image → StandsForJournal begin old image
      kept_whole image (inl left) =
          let same : image ≡ holds.bytes = held_now.1.durable image left ∙ sym encoded in
          subst (λ (b : Start). StandsForJournal b old image) (sym same_begin) (subst (StandsForJournal was old) (sym same) holds.stands)
      kept_whole image (inr (inl stands)) = stands
      kept_whole image (inr (inr (still, new))) = absurd (is_known.0 (subst (λ (o : Option (List ℕ)). IfSome o IsNewDisk) told_now still))

      -- and what it kept is all that a crash leaves
      pub along_ends : (lines : List (List ℕ)) (later : DiskState) → IsDisk later → AtEachMoment now later (WhileOpening begin now old) → EndsFile begin was start later old m lines safe (length safe)
      along_ends lines later is_disk moments =
          let (others, parts) = old_parts in
          record {
            from = m;
            continues = inl (same_begin, refl);
            new = [];
            acknowledged = 0;
            runs = unbegun begin most_unkept start later old m (subst (λ (b : Start). IsKeptJournal b old m) (sym same_begin) holds.journal) is_disk (looks_first begin old start now later along.looks moments);
            whole = weaker start later (WhileOpening begin start old) (LeavesWholeLines begin lines start old) (λ image left. inl left) (looks_first begin old start now later along.looks moments);
            parts = inr (refl, others, parts);
            within = omega (arith, ap length parts, length-append safe others);
            most = omega arith;
            durable = λ image left. kept_first begin (old ++ []) old [] (length safe) image refl (omega (arith, ap length parts, length-append safe others)) (kept_whole image (at_the_end now later (WhileOpening begin now old) is_disk moments image left));
          }

  -- ---- a file that gets more

  module _ (place : ℕ) (now : DiskState) (safe waiting : Entries) (market : Market) (file : Appends begin start place now safe waiting market) where
    keeps_now : Keeps (head_of begin) (map records_of (file.old ++ file.kept)) place now
    keeps_now = known_so (λ _. Keeps (head_of begin) (map records_of (file.old ++ file.kept)) place now) file.keeps

    kept_now : HasKept begin start now file.old file.opened place file.kept file.between
    kept_now = record { goes_on = file.goes_on; keeps = keeps_now; during = file.during was old m holds }

    -- what a crash leaves if the entries that wait are kept, or not
    pub open_ends : (lines : List (List ℕ)) (later : DiskState) → IsDisk later → AtEachMoment start later (LeavesWholeLines begin lines start old) → length waiting ≤ most_unkept → AtEachMoment now later (WithOrWithout (head_of begin) (map records_of (file.old ++ file.kept)) (map records_of waiting))
        → EndsFile begin was start later old m lines (safe ++ waiting) (length safe)
    open_ends lines later is_disk whole few moments =
        let is = continued_old file.old file.opened file.continues in
        let more = failed begin (file.old ++ file.kept) waiting file.between market file.goes_on.journal file.fits file.steps now later moments most_unkept few is_disk in
        let runs = runs_after begin start now file.old file.kept file.opened file.between place kept_now waiting most_unkept later 0 more in
        record {
          from = file.opened;
          continues = is.1;
          new = file.kept ++ waiting;
          acknowledged = length file.kept + 0;
          runs = subst (λ (l : Entries). Runs most_unkept begin start later l file.opened (file.kept ++ waiting) (length file.kept + 0)) (sym is.0) runs;
          whole = whole;
          parts = inl (ap (λ (l : Entries). l ++ waiting) file.parts ∙ append_assoc file.old file.kept waiting ∙ ap (λ (l : Entries). l ++ (file.kept ++ waiting)) (sym is.0));
          within = omega (arith, ap length file.parts, length-append file.old file.kept, ap length is.0);
          most = omega (arith, ap length file.parts, length-append file.old file.kept, ap length is.0);
          durable = λ image left.
              either image is.0 (at_the_end now later (WithOrWithout (head_of begin) (map records_of (file.old ++ file.kept)) (map records_of waiting)) is_disk moments image left);
        }
      where
        all_are : old ≡ file.old → old ++ (file.kept ++ waiting) ≡ (file.old ++ file.kept) ++ waiting
        all_are is = ap (λ (l : Entries). l ++ (file.kept ++ waiting)) is ∙ sym (append_assoc file.old file.kept waiting)

        either : (image : List ℕ) → old ≡ file.old → WithOrWithout (head_of begin) (map records_of (file.old ++ file.kept)) (map records_of waiting) image
            → KeepsFirst begin [] (old ++ (file.kept ++ waiting)) (length safe) (length (old ++ (file.kept ++ waiting))) image
        either image is (inl stands) = kept_first begin (old ++ (file.kept ++ waiting)) (file.old ++ file.kept) waiting (length safe) image (all_are is) (omega (arith, ap length file.parts)) stands
        either image is (inr stands) =
            kept_first begin (old ++ (file.kept ++ waiting)) ((file.old ++ file.kept) ++ waiting) [] (length safe) image (all_are is ∙ sym (append-nil ((file.old ++ file.kept) ++ waiting)))
            (omega (arith, ap length file.parts, length-append (file.old ++ file.kept) waiting)) (subst (λ (l : List RecordPair). StandsFor (head_of begin) l image) (sym (map-append records_of (file.old ++ file.kept) waiting)) stands)

    -- nothing was done since
    pub open_stays : (lines : List (List ℕ)) → IsDisk now → AtEachMoment start now (LeavesWholeLines begin lines start old) → length waiting ≤ most_unkept → EndsFile begin was start now old m lines (safe ++ waiting) (length safe)
    open_stays lines is_disk whole few = open_ends lines now is_disk whole few (no_call now _ is_disk (λ image left. inl (kept_stands begin (map records_of (file.old ++ file.kept)) place now image keeps_now left)))

    -- the entries that wait weren't kept
    abbrev pub LeavesGroup : List ℕ → DiskState → Type 0
    LeavesGroup group later =
        (head : Head) (pairs : List RecordPair) (more : Entries) → Keeps head pairs place now → All IsPair more → group ≡ stored more → AtEachMoment now later (WithOrWithout head pairs (map records_of more))

    open_moments : (w : Entries) (later : DiskState) → AtEachMoment now later (WithOrWithout (head_of begin) (map records_of (file.old ++ file.kept)) (map records_of w))
        → AtEachMoment now later (WithOrWithout (head_of begin) (map records_of safe) (map records_of w))
    open_moments w later moments = subst (λ (l : Entries). AtEachMoment now later (WithOrWithout (head_of begin) (map records_of l) (map records_of w))) (sym file.parts) moments

    pub fails_moments : (group : List ℕ) (later : DiskState) → group ≡ stored waiting → LeavesGroup group later → AtEachMoment now later (WithOrWithout (head_of begin) (map records_of safe) (map records_of waiting))
    fails_moments group later same leaves = open_moments waiting later (leaves (head_of begin) (map records_of (file.old ++ file.kept)) waiting keeps_now file.fits same)

    pub kept_moments : (to : ℕ) (later : DiskState) (w : Entries) → KeepsMore w place to now later → AtEachMoment now later (WithOrWithout (head_of begin) (map records_of safe) (map records_of w))
    kept_moments to later w more = open_moments w later (more.moments (head_of begin) (map records_of (file.old ++ file.kept)) keeps_now)

    pub open_fails : (lines : List (List ℕ)) (group : List ℕ) (later : DiskState) → group ≡ stored waiting → IsDisk later → AtEachMoment start later (LeavesWholeLines begin lines start old) → length waiting ≤ most_unkept
        → ((head : Head) (pairs : List RecordPair) (more : Entries) → Keeps head pairs place now → All IsPair more → group ≡ stored more → AtEachMoment now later (WithOrWithout head pairs (map records_of more)))
        → EndsFile begin was start later old m lines (safe ++ waiting) (length safe)
    open_fails lines group later same is_disk whole few leaves = open_ends lines later is_disk whole few (leaves (head_of begin) (map records_of (file.old ++ file.kept)) waiting keeps_now file.fits same)

-- ---- the entries that waited were kept

-- as many are kept then
more_since : (kept waiting : Entries) (New : Type 0) → (0 < length kept + length waiting) ⊎ New → (0 < length (kept ++ waiting) + length {A = Pair Record Outcome} []) ⊎ New
more_since kept waiting New (inl some) = inl (omega (arith, some, length-append kept waiting))
more_since kept waiting New (inr new) = inr new

module _ (begin : Start) (start : DiskState) (place : ℕ) (now : DiskState) (safe waiting : Entries) (market : Market) (file : Appends begin start place now safe waiting market) where
  goes_now : GoesOn begin (file.old ++ file.kept) file.between waiting market
  goes_now = goes_more begin (file.old ++ file.kept) waiting file.between market file.goes_on.journal file.fits file.steps

  abbrev IsKept : ℕ → DiskState → Entries → Type 0
  IsKept at disk pairs = Keeps (head_of begin) (map records_of pairs) at disk

  module _ (to : ℕ) (later : DiskState) (more : KeepsMore waiting place to now later) where
    keeps_more : IsKept place now (file.old ++ file.kept) → IsKept to later (file.old ++ (file.kept ++ waiting))
    keeps_more keeps =
        subst (λ (l : Entries). IsKept to later l) (append_assoc file.old file.kept waiting)
        (subst (λ (l : List RecordPair). Keeps (head_of begin) l to later) (sym (map-append records_of (file.old ++ file.kept) waiting)) (more.keeps (head_of begin) (map records_of (file.old ++ file.kept)) keeps))

    during_more : (was : Start) (legal : Entries) (m : Market) → HoldsLegal start was legal m → DuringCall begin start later file.old (file.kept ++ waiting)
    during_more was legal m holds =
        let keeps : IsKept place now (file.old ++ file.kept) = subst (λ (o : Option (List ℕ)). IfSome o (λ _. IsKept place now (file.old ++ file.kept))) holds.told file.keeps in
        let first : HasKept begin start now file.old file.opened place file.kept file.between = record { goes_on = file.goes_on; keeps = keeps; during = file.during was legal m holds } in
        let second = kept_more begin (file.old ++ file.kept) waiting file.between market file.goes_on.journal file.fits file.steps now later (more.moments (head_of begin) (map records_of (file.old ++ file.kept)) keeps) to (more.keeps (head_of begin) (map records_of (file.old ++ file.kept)) keeps) in
        let both = kept_both begin start now file.old file.kept file.opened file.between place first waiting later market to second in
        both.during

    -- the file gets more after them
    pub kept_since : (IsSome later.content → IsSome now.content) → Appends begin start to later (safe ++ waiting) [] market
    kept_since told = record {
      old = file.old;
      opened = file.opened;
      kept = file.kept ++ waiting;
      between = market;
      parts = ap (λ (l : Entries). l ++ waiting) file.parts ∙ append_assoc file.old file.kept waiting;
      continues = file.continues;
      goes_on = record {
        steps = follows-append IsReadAs reading_unique IsCanonicalOutcome file.opened file.between market file.kept waiting file.goes_on.steps file.steps;
        journal = subst (λ (l : Entries). IsKeptJournal begin l market) (append_assoc file.old file.kept waiting) goes_now.journal;
      };
      keeps = over start.content (IsKept place now (file.old ++ file.kept)) (IsKept to later (file.old ++ (file.kept ++ waiting))) keeps_more file.keeps;
      during = during_more;
      told = λ is. file.told (told is);
      more = more_since file.kept waiting (IfSome start.content (λ held. IsOpening held opening.New)) file.more;
      steps = refl;
      fits = All-nil IsPair;
    }

-- no entry has no bytes as it is stored
pub none_stored : (waiting : Entries) → stored waiting ≡ [] → waiting ≡ []
none_stored [] e = refl
none_stored (pair ∷ waiting) e = absurd cc

-- what was known of the disk before is known of it after, since it is the same one
abbrev pub Carries : (Same : Type 0) (before after : DiskState) → Type 1
Carries Same before after = Same → (P : DiskState → Type 0) → P before → P after
