-- What waits is kept and written: how the invariant of all lines goes on.
use Rattle.std.proofs.Common.{◌≡◌, ◌≢◌, ◌⊎◌, inl, inr, ℕ, ◌+◌, ◌-◌, ◌*◌, ◌<◌, ◌≤◌, List, [], ◌∷◌, ◌++◌, Bool, IsTrue, Option, Some, None, IfSome, IsSome, length, length-append, take, drop, map, refl, sym, ap, subst, ◌∙◌, arith, append_assoc}
use Rattle.std.specs.Prelude.{All}
use Rattle.std.proofs.lemmas.List.{append-nil, map-append, drop_all, length-drop, drop-append-le}
use Rattle.std.proofs.lemmas.List.Elements.{All-take, All-drop}
use Rattle.std.proofs.Math.Seq.{take-append_seam, drop-append_seam}
use Rattle.wire_records.specs.Versions.{IsReadAs}
use Rattle.wire_records.proofs.Readings.{reading_unique}
use Rattle.canonical_rule.specs.Canonical.{IsCanonicalOutcome}
use Rattle.flow_accounts.specs.Balances.{account_count}
use Rattle.journal_records.specs.Pairs.{IsPair}
use Rattle.journal_records.specs.Formats.{records_of}
use Rattle.market_rules.specs.Market.{Market}
use Rattle.market_rules.specs.Journal.{Follows}
use Rattle.market_rules.proofs.OneJournal.{follows-append, follows-parts}
use Rattle.market_history.specs.Histories.{Start}
use Rattle.disk_edge.specs.Disks.{DiskState}
use Rattle.journal_disk.specs.Pairs.{RecordPair}
use Rattle.journal_disk.specs.Entries.{Keeps}
use Rattle.journal_keeping.specs.Starts.{head_of}
use Rattle.journal_keeping.specs.Keeping.{IsKeptJournal, HoldsLegal, GoesOn, DuringCall}
use Rattle.journal_keeping.specs.Openings.{IsOpening}
use Rattle.journal_keeping.specs.Openings as opening
use Rattle.journal_keeping.specs.Outputs.{Output, Gains}
use Rattle.journal_keeping.specs.Private.{KeepsMore}
use Rattle.journal_keeping.specs.Serving.{HasKept}
use Rattle.journal_keeping.proofs.Serving.{goes_more, kept_more}
use Rattle.journal_keeping.proofs.Adding.{kept_both}
use Rattle.journal_keeping.proofs.Gaining.{gains_more}
use Rattle.desk_messages.specs.Desks.{Desks}
use Rattle.desk_session.specs.States.{State, CountsAccounts}
use Rattle.desk_session.specs.Bounds.{IsWithin}
use Rattle.desk_opening.specs.Books.{AddsTo, LeavesWithOrWithout}
use Rattle.desk_opening.specs.Openings.{place_of}
use Rattle.desk_opening.specs.declared.book.Book.{Book}
use Rattle.desk_opening.specs.declared.book.Book.TheVariants.{Kept, Open}
use Rattle.desk_keeping.specs.Hosting.{Entries, Texts, AreHosted}
use Rattle.desk_keeping.specs.Private.{HostState, stored, unwritten, SameSession, KeepsGroup, IsSameHost, MaySettle, Appends, IsFileAt, IsOpen, AreWhole, IsWholeAt, IsAt, IsWithinLines}
use Rattle.desk_keeping.proofs.Leaving.{kept_moments}
use Rattle.desk_keeping.proofs.Whole.{whole_lines, whole_ends}

-- ---- the file

-- there are no entries without bytes
pub none_stored : (pairs : Entries) → stored pairs ≡ [] → pairs ≡ []
none_stored [] e = refl
none_stored (pair ∷ pairs) e = absurd cc

-- the first ones of entries that fit
first_fit : (p q : Entries) → All IsPair (p ++ q) → All IsPair p
first_fit p q all = subst (λ (l : Entries). All IsPair l) (take-append_seam p q) (All-take IsPair (length p) (p ++ q) all)

-- and the others
others_fit : (p q : Entries) → All IsPair (p ++ q) → All IsPair q
others_fit p q all = subst (λ (l : Entries). All IsPair l) (drop-append_seam p q) (All-drop IsPair (length p) (p ++ q) all)

-- what follows if the content was told
if_told : (content : Option (List ℕ)) (P Q : Type 0) → (P → Q) → IfSome content (λ _. P) → IfSome content (λ _. Q)
if_told None P Q f p = tt
if_told (Some bytes) P Q f p = f p

-- as many are kept and wait
more_kept : (kept w m : Entries) (New : Type 0) → (0 < length kept + length (w ++ m)) ⊎ New → (0 < length (kept ++ w) + length m) ⊎ New
more_kept kept w m New (inl some) = inl (omega (arith, some, length-append w m, length-append kept w))
more_kept kept w m New (inr new) = inr new

module _ (begin : Start) (start now later : DiskState) where
  -- the first of those that wait were kept
  module _ (place to : ℕ) (safe w m : Entries) (market : Market) (is : Appends begin start place now safe (w ++ m) market) (more : KeepsMore w place to now later) where
    -- what the disk kept
    abbrev Before : Type 0
    Before = Keeps (head_of begin) (map records_of (is.old ++ is.kept)) place now

    -- and what it keeps then
    abbrev After : Type 0
    After = Keeps (head_of begin) (map records_of (is.old ++ (is.kept ++ w))) to later

    -- the market between those that were kept and the others
    parts : (at : Market) × Follows IsReadAs IsCanonicalOutcome is.between w at × Follows IsReadAs IsCanonicalOutcome at m market
    parts = follows-parts IsReadAs reading_unique IsCanonicalOutcome is.between market w m is.steps

    -- those that were kept so far, and these after them
    kept_also : Before → HasKept begin start now is.old is.opened place is.kept is.between → HasKept begin start later is.old is.opened to (is.kept ++ w) parts.0
    kept_also before so =
        kept_both begin start now is.old is.kept is.opened is.between place so w later parts.0 to
        (kept_more begin (is.old ++ is.kept) w is.between parts.0 is.goes_on.journal (first_fit w m is.fits) parts.1 now later (more.moments (head_of begin) (map records_of (is.old ++ is.kept)) before) to
        (more.keeps (head_of begin) (map records_of (is.old ++ is.kept)) before))

    -- they are a valid journal
    goes_also : GoesOn begin is.old is.opened (is.kept ++ w) parts.0
    goes_also = record {
      steps = follows-append IsReadAs reading_unique IsCanonicalOutcome is.opened is.between parts.0 is.kept w is.goes_on.steps parts.1;
      journal = subst (λ (l : Entries). IsKeptJournal begin l parts.0) (append_assoc is.old is.kept w)
          (goes_more begin (is.old ++ is.kept) w is.between parts.0 is.goes_on.journal (first_fit w m is.fits) parts.1).journal;
    }

    -- the disk keeps them
    keeps_also : Before → After
    keeps_also before =
        subst (λ (l : List RecordPair). Keeps (head_of begin) l to later) (sym (map-append records_of (is.old ++ is.kept) w) ∙ ap (λ (l : Entries). map records_of l) (append_assoc is.old is.kept w))
        (more.keeps (head_of begin) (map records_of (is.old ++ is.kept)) before)

    -- what a crash left
    during_also : (was : Start) (legal : Entries) (n : Market) → HoldsLegal start was legal n → DuringCall begin start later is.old (is.kept ++ w)
    during_also was legal n holds =
        let before = subst (λ (o : Option (List ℕ)). IfSome o (λ _. Before)) holds.told is.keeps in
        (kept_also before (record { goes_on = is.goes_on; keeps = before; during = is.during was legal n holds })).during

    -- the file goes on
    pub kept_on : (IsSome later.content → IsSome now.content) → Appends begin start to later (safe ++ w) m market
    kept_on told = record {
      old = is.old;
      opened = is.opened;
      kept = is.kept ++ w;
      between = parts.0;
      parts = ap (λ (l : Entries). l ++ w) is.parts ∙ append_assoc is.old is.kept w;
      continues = is.continues;
      goes_on = goes_also;
      keeps = if_told start.content Before After keeps_also is.keeps;
      during = during_also;
      told = λ some. is.told (told some);
      more = more_kept is.kept w m (IfSome start.content (λ held. IsOpening held opening.New)) is.more;
      steps = parts.2;
      fits = others_fit w m is.fits;
    }

  -- what waited was kept, if there was anything; what is still to wait is left
  pub file_kept : (b c : Book) (group : List ℕ) (safe w m : Entries) (market : Market) (Same : Type 0) → (Same → (P : DiskState → Type 0) → P now → P later) → IsFileAt begin start b now safe (w ++ m) market → group ≡ stored w
      → ((group ≡ []) × (c ≡ b) × Same) ⊎ ((group ≢ []) × AddsTo group b c now later × LeavesWithOrWithout group b now later) → IsFileAt begin start c later (safe ++ w) m market
  file_kept b c group safe w m market Same carry file is (inl (none, book, same)) =
      let nothing : w ≡ [] = none_stored w (sym is ∙ none) in
      subst (λ (x : Book). IsFileAt begin start x later (safe ++ w) m market) (sym book)
      (carry same (λ s. IsFileAt begin start b s (safe ++ w) m market)
      (subst (λ (l : Entries). IsFileAt begin start b now l m market) (sym (ap (λ (l : Entries). safe ++ l) nothing ∙ append-nil safe))
      (subst (λ (l : Entries). IsFileAt begin start b now safe l market) (ap (λ (l : Entries). l ++ m) nothing) file)))
  file_kept (Open from) (Open to) group safe w m market Same carry file is (inr (some, adds, leaves)) = kept_on from to safe w m market file (adds.2 w (first_fit w m file.fits) is) adds.1
  file_kept (Open from) (Kept place ahead) group safe w m market Same carry file is (inr (some, adds, leaves)) = absurd adds
  file_kept (Kept place ahead) c group safe w m market Same carry file is (inr (some, adds, leaves)) = absurd adds

-- and so of each line all was kept, if what waited are the last entries of lines
pub whole_kept : (begin : Start) (start now later : DiskState) (read : List (List ℕ)) (b c : Book) (group : List ℕ) (safe w m : Entries) (market : Market) (Same : Type 0) → (Same → (P : DiskState → Type 0) → P now → P later)
    → IsFileAt begin start b now safe (w ++ m) market → IsWholeAt begin start read b now safe → group ≡ stored w → (IsOpen b → (was : Start) (legal : Entries) (k : Market) → HoldsLegal start was legal k → AreWhole begin read legal (safe ++ w))
    → ((group ≡ []) × (c ≡ b) × Same) ⊎ ((group ≢ []) × AddsTo group b c now later × LeavesWithOrWithout group b now later) → IsWholeAt begin start read c later (safe ++ w)
whole_kept begin start now later read b c group safe w m market Same carry file whole is all (inl (none, book, same)) =
    let nothing : w ≡ [] = none_stored w (sym is ∙ none) in
    subst (λ (x : Book). IsWholeAt begin start read x later (safe ++ w)) (sym book)
    (carry same (λ s. IsWholeAt begin start read b s (safe ++ w)) (subst (λ (l : Entries). IsWholeAt begin start read b now l) (sym (ap (λ (l : Entries). safe ++ l) nothing ∙ append-nil safe)) whole))
whole_kept begin start now later read (Open from) (Open to) group safe w m market Same carry file whole is all (inr (some, adds, leaves)) = λ was legal k holds. (
  whole_ends begin start read from now later safe w whole was legal k holds (all tt was legal k holds)
      (kept_moments begin was start legal k holds from now safe (w ++ m) market file to later w (adds.2 w (first_fit w m file.fits) is)),
  all tt was legal k holds,
)
whole_kept begin start now later read (Open from) (Kept place ahead) group safe w m market Same carry file whole is all (inr (some, adds, leaves)) = absurd adds
whole_kept begin start now later read (Kept place ahead) c group safe w m market Same carry file whole is all (inr (some, adds, leaves)) = absurd adds

-- where the next entry is once those that waited were kept
pub place_kept : (b c : Book) (group : List ℕ) (now later : DiskState) (Same : Type 0)
    → ((group ≡ []) × (c ≡ b) × Same) ⊎ ((group ≢ []) × AddsTo group b c now later × LeavesWithOrWithout group b now later) → place_of c ≡ place_of b + length group
place_kept b c group now later Same (inl (none, book, same)) = ap place_of book ∙ omega (arith, ap length none)
place_kept (Open from) (Open to) group now later Same (inr (some, adds, leaves)) = adds.0
place_kept (Open from) (Kept place ahead) group now later Same (inr (some, adds, leaves)) = absurd adds
place_kept (Kept place ahead) c group now later Same (inr (some, adds, leaves)) = absurd adds

-- ---- texts

-- the texts of complete lines that are to be written, if those of another line may follow
pub to_write : (texts own : Texts) (told written : ℕ) → told ≡ length texts → written ≤ told → take (told - written) (drop written (texts ++ own)) ≡ drop written texts
to_write texts own told written all order =
    let size : told - written ≡ length (drop written texts) = omega (arith, all, length-drop written texts) in
    ap (λ (l : Texts). take (told - written) l) (drop-append-le written texts own (omega (arith, order, all))) ∙ ap (λ (n : ℕ). take n (drop written texts ++ own)) size ∙ take-append_seam (drop written texts) own

-- those that are left then
pub left_after : (texts own : Texts) (told : ℕ) → told ≡ length texts → drop told (texts ++ own) ≡ own
left_after texts own told all = ap (λ (n : ℕ). drop n (texts ++ own)) all ∙ drop-append_seam texts own

-- all texts of complete lines were written
pub gained_all : (first out after : Output) (texts gone left wrote : Texts) → texts ≡ gone ++ left → wrote ≡ left → Gains ⊥ first out gone → Gains ⊥ out after wrote → Gains ⊥ first after texts
gained_all first out after texts gone left wrote said is so more =
    subst (λ (l : Texts). Gains ⊥ first after l) (ap (λ (l : Texts). gone ++ l) is ∙ sym said) (gains_more ⊥ first out after gone wrote so more)

-- ---- all lines so far

-- the same lines in the same market
pub hosted_same : (begin : Start) (read : List (List ℕ)) (pairs : Entries) (texts : Texts) (m n : Market) (d e : Desks) → n ≡ m → e ≡ d → AreHosted begin read pairs texts m d → AreHosted begin read pairs texts n e
hosted_same begin read pairs texts m n d e market desks is = subst (λ (x : Market). AreHosted begin read pairs texts x e) (sym market) (subst (λ (y : Desks). AreHosted begin read pairs texts m y) (sym desks) is)

-- a session counts accounts as before
pub same_counts : (old new : State) → SameSession old new → CountsAccounts old → CountsAccounts new
same_counts old new same counts = ap (λ (d : Desks). length d.accounts) same.desks ∙ counts ∙ ap (λ (m : Market). account_count m.balances) (sym same.market)

-- and no more of them
pub same_within : (used : ℕ) (old new : State) → SameSession old new → IsWithin used old → IsWithin used new
same_within used old new same within = record {
  orders = omega (arith, ap (λ (m : Market). m.next_order) same.market, within.orders);
  entries = omega (arith, same.entries, within.entries);
  lines = omega (arith, ap (λ (d : Desks). d.total.lines) same.desks, within.lines);
  messages = omega (arith, ap (λ (d : Desks). d.total.messages) same.desks, ap (λ (m : Market). m.batches) same.market, within.messages);
}

-- hosts of the same parts are the same
same_parts : (a b : State) (c d : Book) (group fresh waits news : List ℕ) (told written all gone : ℕ) → a ≡ b → c ≡ d → group ≡ waits → fresh ≡ news → told ≡ all → written ≡ gone
    → ◌≡◌ {A = HostState} (record { session = a; book = c; group = group; fresh = fresh; told = told; written = written }) (record { session = b; book = d; group = waits; fresh = news; told = all; written = gone })
same_parts a b c d group fresh waits news told written all gone p q r s t u = rw (p, q, r, s, t, u) refl

-- a host that is as it was
same_host : (old new : HostState) → IsSameHost old new → old ≡ new
same_host old new same =
    same_parts old.session new.session old.book new.book old.group old.fresh new.group new.fresh old.told old.written new.told new.written (sym same.session) (sym same.book) (sym same.group) (sym same.fresh) (sym same.told) (sym same.written)

module _ (begin : Start) (start now later : DiskState) (first out after : Output) (read : List (List ℕ)) (h next : HostState) (SameDisk SameOut : Type 0) where
  -- what waited was kept and written
  group_kept : (SameDisk → (P : DiskState → Type 0) → P now → P later) → IsAt begin start first read h now out → KeepsGroup h next now later out after SameDisk → IsAt begin start first read next later after
  group_kept carry is kept =
      let left = drop h.written h.session.talk.texts in
      let nothing : drop next.written next.session.talk.texts ≡ [] = kept.left ∙ drop_all h.told h.session.talk.texts (omega (arith, is.all_told)) in
      let written : unwritten h ≡ left = ap (λ (l : Texts). take (h.told - h.written) (drop h.written l)) (sym (append-nil h.session.talk.texts)) ∙ to_write h.session.talk.texts [] h.told h.written is.all_told is.order in
      record {
        pairs = is.pairs;
        texts = is.texts;
        hosted = hosted_same begin read is.pairs is.texts h.session.market next.session.market h.session.talk.desks next.session.talk.desks kept.session.market kept.session.desks is.hosted;
        entries = kept.session.entries ∙ is.entries;
        counts = same_counts h.session next.session kept.session is.counts;
        none = kept.fresh ∙ is.none;
        safe = is.safe ++ is.waiting;
        waiting = [];
        parts = is.parts ∙ sym (append-nil (is.safe ++ is.waiting));
        group = kept.group;
        file = subst (λ (m : Market). IsFileAt begin start next.book later (is.safe ++ is.waiting) [] m) (sym kept.session.market)
            (file_kept begin start now later h.book next.book h.group is.safe is.waiting [] h.session.market SameDisk carry (subst (λ (l : Entries). IsFileAt begin start h.book now is.safe l h.session.market) (sym (append-nil is.waiting)) is.file)
            is.group kept.keeps);
        whole = whole_kept begin start now later read h.book next.book h.group is.safe is.waiting [] h.session.market SameDisk carry
            (subst (λ (l : Entries). IsFileAt begin start h.book now is.safe l h.session.market) (sym (append-nil is.waiting)) is.file) is.whole is.group
            (λ opens was legal m holds. subst (AreWhole begin read legal) is.parts (whole_lines begin read legal is.pairs is.texts h.session.market h.session.talk.desks is.hosted)) kept.keeps;
        all_told = omega (arith, kept.told, kept.within, ap length nothing, length-drop next.written next.session.talk.texts);
        order = omega (arith, kept.told);
        gone = is.texts;
        said = sym (ap (λ (l : Texts). is.texts ++ l) nothing ∙ append-nil is.texts);
        gained = gained_all first out after is.texts is.gone left (unwritten h) is.said written is.gained kept.gained;
        told = (read, [], sym (append-nil read), is.pairs, [], sym is.parts ∙ sym (append-nil is.pairs), h.session.market, h.session.talk.desks, is.hosted, λ was legal m holds. inl (omega (arith, ap length is.parts)));
      }

  module _ (is_last : Bool) (is : IsAt begin start first read h now out) (settles : MaySettle is_last h next now later out after SameDisk SameOut) where
    -- what waited was kept and written, or nothing was done
    pub at_settled : (SameDisk → (P : DiskState → Type 0) → P now → P later) → (SameOut → (P : Output → Type 0) → P out → P after) → IsAt begin start first read next later after
    at_settled carry carry_out = either settles
      where
        either : MaySettle is_last h next now later out after SameDisk SameOut → IsAt begin start first read next later after
        either (inl kept) = group_kept carry is kept
        either (inr (not, same, disk, output)) =
            subst (λ (x : HostState). IsAt begin start first read x later after) (same_host h next same)
            (carry disk (λ (s : DiskState). IsAt begin start first read h s after) (carry_out output (λ (o : Output). IsAt begin start first read h now o) is))

    -- before more is read nothing waits
    pub settled_all : IsTrue is_last → (next.group ≡ []) × (drop next.written next.session.talk.texts ≡ [])
    settled_all last = either settles
      where
        either : MaySettle is_last h next now later out after SameDisk SameOut → (next.group ≡ []) × (drop next.written next.session.talk.texts ≡ [])
        either (inl kept) = (kept.group, kept.left ∙ drop_all h.told h.session.talk.texts (omega (arith, is.all_told)))
        either (inr (not, same, disk, output)) = absurd (not last)

    -- the counts are no further, nor the file
    pub settled_within : (lines : ℕ) → IsWithinLines lines h → IsWithinLines lines next
    settled_within lines within = either settles
      where
        either : MaySettle is_last h next now later out after SameDisk SameOut → IsWithinLines lines next
        either (inl kept) = record {
          within = same_within (33 * lines) h.session next.session kept.session within.within;
          place = omega (arith, place_kept h.book next.book h.group now later SameDisk kept.keeps, ap length kept.group, within.place);
          short = omega (arith, ap length kept.group);
        }
        either (inr (not, same, disk, output)) = subst (λ (x : HostState). IsWithinLines lines x) (same_host h next same) within
