-- One more line: how the invariant of all lines goes on, and how far the counts and the file can be then.
use Rattle.std.proofs.Common.{◌≡◌, ◌⊎◌, inl, inr, ℕ, ◌+◌, ◌*◌, ◌^◌, ◌<◌, ◌≤◌, List, [], ◌∷◌, ◌++◌, IfSome, length, drop, map, flat_map, refl, sym, ap, subst, ◌∙◌, arith, append_assoc, length-append}
use Rattle.std.specs.Prelude.{All}
use Rattle.std.proofs.lemmas.List.{append-nil, map-append, drop-append-le}
use Rattle.std.proofs.lemmas.Grind.{flat_map-append}
use Rattle.std.proofs.lemmas.List.Elements.{All-append}
use Rattle.wire_records.specs.Versions.{IsReadAs}
use Rattle.wire_records.proofs.Readings.{reading_unique}
use Rattle.flow_orders.specs.Outcomes.{IsAdmissibleOutcome}
use Rattle.canonical_rule.specs.Canonical.{IsCanonicalOutcome}
use Rattle.journal_records.specs.Pairs.{IsPair}
use Rattle.journal_records.specs.Formats.{records_of}
use Rattle.market_rules.specs.Market.{Market}
use Rattle.market_rules.specs.Journal.{Follows}
use Rattle.market_rules.proofs.OneJournal.{follows-append}
use Rattle.market_history.specs.Histories.{Start, market_of}
use Rattle.disk_edge.specs.Disks.{DiskState, IsDisk}
use Rattle.journal_disk.specs.Pairs.{RecordPair}
use Rattle.journal_disk.specs.Entries.{entry}
use Rattle.journal_keeping.specs.Lengths.{longest_stored_entry}
use Rattle.journal_keeping.specs.Openings.{IsOpening}
use Rattle.journal_keeping.specs.Openings as opening
use Rattle.journal_keeping.specs.Outputs.{Output, Gains}
use Rattle.journal_keeping.specs.Keeping.{HoldsLegal}
use Rattle.desk_messages.specs.Desks.{Desks}
use Rattle.desk_session.specs.States.{State, CountsAccounts}
use Rattle.desk_session.specs.Bounds.{IsWithin}
use Rattle.desk_session.specs.Lines.{IsLineServed}
use Rattle.desk_session.proofs.Going.{lines_more, follows_line}
use Rattle.desk_opening.specs.Openings.{BeginsAlone, place_of}
use Rattle.desk_opening.specs.declared.book.Book.{Book}
use Rattle.desk_opening.specs.declared.book.Book.TheVariants.{Kept, Open}
use Rattle.desk_keeping.specs.Hosting.{Entries, Texts, AreHosted, desks_of}
use Rattle.desk_keeping.specs.Private.{HostState, stored, unwritten, FileGoes, MakesAtEnd, HearsLine, EndsLine, KeepsWaiting, AnswersLong, Appends, IsFileAt, IsOpen, AreWhole, IsWholeAt, AreOthersOld, AreToldOf, IsAt, IsWithinLines}
use Rattle.desk_keeping.proofs.Files.{along_now, along_later, gets_later}
use Rattle.desk_keeping.proofs.Steps.{appends_first}
use Rattle.desk_keeping.proofs.Leaving.{continued_old, old_parts}
use Rattle.desk_keeping.proofs.Whole.{whole_lines, whole_also, whole_more, whole_gets}
use Rattle.desk_keeping.proofs.Settled.{file_kept, whole_kept, place_kept, to_write, left_after, gained_all, hosted_same, same_counts, same_within}

-- ---- what was answered

-- lines more were heard, and more entries are in the file
pub told_more : (begin : Start) (start : DiskState) (read more : List (List ℕ)) (gone : Texts) (safe others : Entries) → ((first : Entries) → AreOthersOld start first safe → AreOthersOld start first (safe ++ others)) → AreToldOf begin start read gone safe
    → AreToldOf begin start (read ++ more) gone (safe ++ others)
told_more begin start read more gone safe others also (done, rest, lines, first, after, entries, market, desks, hosted, old) = (
  done,
  rest ++ more,
  ap (λ (l : List (List ℕ)). l ++ more) lines ∙ append_assoc done rest more,
  first,
  after ++ others,
  ap (λ (l : Entries). l ++ others) entries ∙ append_assoc first after others,
  market,
  desks,
  hosted,
  also first old,
)

-- as many counts more
pub within_more : (used more : ℕ) (s : State) → used ≤ more → IsWithin used s → IsWithin more s
within_more used more s few within = record {
  orders = omega (arith, few, within.orders);
  entries = omega (arith, few, within.entries);
  lines = omega (arith, few, within.lines);
  messages = omega (arith, few, within.messages);
}

-- one more line was served
hosted_more : (begin : Start) (read : List (List ℕ)) (line : List ℕ) (count : ℕ) (pairs more : Entries) (texts own : Texts) (m n : Market) (d e : Desks) → count ≡ length pairs → AreHosted begin read pairs texts m d
    → IsLineServed IsAdmissibleOutcome m d count line more own n e → AreHosted begin (read ++ line ∷ []) (pairs ++ more) (texts ++ own) n e
hosted_more begin read line count pairs more texts own m n d e at hosted served =
    lines_more IsAdmissibleOutcome (market_of begin) m n (desks_of begin) d e 0 read line pairs more texts own hosted (subst (λ (x : ℕ). IsLineServed IsAdmissibleOutcome m d x line more own n e) (omega (arith, at)) served)

-- the texts that are to be written, and those of one more line
said_more : (all gone texts own now : Texts) (told written place : ℕ) → all ≡ gone ++ drop written texts → told ≡ length texts → written ≤ told → now ≡ texts ++ own → place ≡ written → all ++ own ≡ gone ++ drop place now
said_more all gone texts own now told written place said told_all order is at =
    ap (λ (l : Texts). l ++ own) said
    ∙ append_assoc gone (drop written texts) own
    ∙ ap (λ (l : Texts). gone ++ l) (sym (drop-append-le written texts own (omega (arith, told_all, order))) ∙ ap (λ (l : Texts). drop written l) (sym is) ∙ ap (λ (n : ℕ). drop n now) (sym at))

-- the bytes of entries and of others after them
stored_more : (pairs more : Entries) → stored (pairs ++ more) ≡ stored pairs ++ stored more
stored_more pairs more = ap (λ (l : List RecordPair). flat_map entry l) (map-append records_of pairs more) ∙ flat_map-append entry (map records_of pairs) (map records_of more)

-- ---- a line that is too long

module _ (begin : Start) (start now : DiskState) (first out : Output) (read : List (List ℕ)) (line : List ℕ) (h next : HostState) (answers : AnswersLong line h next) where
  -- it adds no entry
  pub at_long : IsAt begin start first read h now out → next.told ≡ length next.session.talk.texts → CountsAccounts next.session → IsAt begin start first (read ++ line ∷ []) next now out
  at_long is told counts =
      let market = follows_line IsAdmissibleOutcome h.session.market next.session.market h.session.talk.desks next.session.talk.desks h.session.entries line [] answers.texts answers.served in
      record {
        pairs = is.pairs ++ [];
        texts = is.texts ++ answers.texts;
        hosted = hosted_more begin read line h.session.entries is.pairs [] is.texts answers.texts h.session.market next.session.market h.session.talk.desks next.session.talk.desks is.entries is.hosted answers.served;
        entries = omega (arith, answers.entries, is.entries, length-append is.pairs []);
        counts = counts;
        none = answers.fresh ∙ is.none;
        safe = is.safe;
        waiting = is.waiting;
        parts = append-nil is.pairs ∙ is.parts;
        group = answers.group ∙ is.group;
        file = subst (λ (b : Book). IsFileAt begin start b now is.safe is.waiting next.session.market) (sym answers.book) (subst (λ (m : Market). IsFileAt begin start h.book now is.safe is.waiting m) (sym market) is.file);
        whole = subst (λ (b : Book). IsWholeAt begin start (read ++ line ∷ []) b now is.safe) (sym answers.book) (whole_more begin read (line ∷ []) start h.book now is.safe is.whole);
        all_told = told;
        order = omega (arith, told, answers.written, is.order, is.all_told, ap length answers.said, length-append h.session.talk.texts answers.texts);
        gone = is.gone;
        said = said_more is.texts is.gone h.session.talk.texts answers.texts next.session.talk.texts h.told h.written next.written is.said is.all_told is.order answers.said answers.written;
        gained = is.gained;
        told = subst (λ (l : Entries). AreToldOf begin start (read ++ line ∷ []) is.gone l) (append-nil is.safe) (told_more begin start read (line ∷ []) is.gone is.safe [] (λ first old. subst (AreOthersOld start first) (sym (append-nil is.safe)) old) is.told);
      }

  -- and a line more is counted
  pub within_long : (lines : ℕ) → ((used : ℕ) → IsWithin used h.session → IsWithin (used + 1) next.session) → IsWithinLines lines h → IsWithinLines (lines + 1) next
  within_long lines room within = record {
    within = within_more (33 * lines + 1) (33 * (lines + 1)) next.session (omega arith) (room (33 * lines) within.within);
    place = omega (arith, ap place_of answers.book, ap length answers.group, within.place);
    short = omega (arith, ap length answers.group, within.short);
  }

-- ---- the file while a line is heard

-- there is one at least then too
more_wait : (kept waiting made : Entries) (New : Type 0) → (0 < length kept + length waiting) ⊎ New → (0 < length kept + length (waiting ++ made)) ⊎ New
more_wait kept waiting made New (inl some) = inl (omega (arith, some, length-append waiting made))
more_wait kept waiting made New (inr new) = inr new

-- more entries wait
appends_more : (begin : Start) (start now : DiskState) (place : ℕ) (safe waiting made : Entries) (before after : Market) → Appends begin start place now safe waiting before → Follows IsReadAs IsCanonicalOutcome before made after → All IsPair made
    → Appends begin start place now safe (waiting ++ made) after
appends_more begin start now place safe waiting made before after is steps fits = record {
  old = is.old;
  opened = is.opened;
  kept = is.kept;
  between = is.between;
  parts = is.parts;
  continues = is.continues;
  goes_on = is.goes_on;
  keeps = is.keeps;
  during = is.during;
  told = is.told;
  more = more_wait is.kept waiting made (IfSome start.content (λ held. IsOpening held opening.New)) is.more;
  steps = follows-append IsReadAs reading_unique IsCanonicalOutcome is.between before after waiting made is.steps steps;
  fits = All-append IsPair waiting made is.fits fits;
}

module _ (begin : Start) (start now mid : DiskState) (Same : Type 0) (safe waiting taken made : Entries) (before after : Market) where
  module _ (is_disk : IsDisk now) (carry : Same → (P : DiskState → Type 0) → P now → P mid) where
    -- the file has what was taken, and what was made waits
    file_heard : (b c : Book) → IsFileAt begin start b now safe waiting before → FileGoes b c now mid Same before taken made after → MakesAtEnd b c made → IsFileAt begin start c mid (safe ++ taken) (waiting ++ made) after
    file_heard (Kept p a) (Kept q b) (none, along) (nothing, on) end =
        (rw (none, nothing) refl, along_later begin p q a b start now mid safe (safe ++ taken) before after along (on begin safe (along_now begin p a start now safe before is_disk along)))
    file_heard (Kept p a) (Open q) (none, along) (at, up, steps, fits) end =
        let gets = gets_later begin p q a start now mid safe (safe ++ taken) before at along (up begin safe (along_now begin p a start now safe before is_disk along)) in
        subst (λ (l : Entries). Appends begin start q mid (safe ++ taken) l after) (sym (ap (λ (l : Entries). l ++ made) none)) (appends_first begin q start mid (safe ++ taken) made at after gets (inl end) steps fits)
    file_heard (Open p) (Open q) file (none, still, same, steps, fits) end =
        let here = appends_more begin start mid p safe waiting made before after (carry same (λ s. Appends begin start p s safe waiting before) file) steps fits in
        subst (λ (l : Entries). Appends begin start q mid l (waiting ++ made) after) (sym (ap (λ (l : Entries). safe ++ l) none ∙ append-nil safe)) (subst (λ (x : ℕ). Appends begin start x mid safe (waiting ++ made) after) (sym still) here)
    file_heard (Open p) (Kept q b) file goes end = absurd goes

  -- of each line all was kept, or none
  whole_heard : (read : List (List ℕ)) → IsDisk now → (Same → (P : DiskState → Type 0) → P now → P mid) → (b c : Book) → IsFileAt begin start b now safe waiting before → IsWholeAt begin start read b now safe
      → FileGoes b c now mid Same before taken made after → IsWholeAt begin start read c mid (safe ++ taken)
  whole_heard read is_disk carry (Kept p a) (Kept q b) file whole goes = tt
  whole_heard read is_disk carry (Kept p a) (Open q) (none, along) whole (at, up, steps, fits) =
      let gets = gets_later begin p q a start now mid safe (safe ++ taken) before at along (up begin safe (along_now begin p a start now safe before is_disk along)) in
      whole_gets begin start read q mid (safe ++ taken) at gets
  whole_heard read is_disk carry (Open p) (Open q) file whole (none, still, same, steps, fits) =
      subst (λ (l : Entries). IsWholeAt begin start read (Open q) mid l) (sym (ap (λ (l : Entries). safe ++ l) none ∙ append-nil safe)) (carry same (λ s. IsWholeAt begin start read (Open p) s safe) whole)
  whole_heard read is_disk carry (Open p) (Kept q b) file whole goes = absurd goes

  -- those that waited before are then the last ones of lines
  whole_then : (read : List (List ℕ)) (pairs : Entries) → IsDisk now → pairs ≡ safe ++ waiting → ((legal : Entries) → AreWhole begin read legal pairs) → (b c : Book) → IsFileAt begin start b now safe waiting before
      → FileGoes b c now mid Same before taken made after → IsOpen c → (was : Start) (legal : Entries) (m : Market) → HoldsLegal start was legal m → AreWhole begin read legal ((safe ++ taken) ++ waiting)
  whole_then read pairs is_disk parts all (Kept p a) (Kept q b) file goes opens was legal m holds = absurd opens
  whole_then read pairs is_disk parts all (Kept p a) (Open q) (none, along) (at, up, steps, fits) opens was legal m holds =
      let gets = gets_later begin p q a start now mid safe (safe ++ taken) before at along (up begin safe (along_now begin p a start now safe before is_disk along)) in
      inl (ap (λ (l : Entries). (safe ++ taken) ++ l) none ∙ append-nil (safe ++ taken) ∙ sym (continued_old begin was start legal m holds (safe ++ taken) at gets.continues).0)
  whole_then read pairs is_disk parts all (Open p) (Open q) file (none, still, same, steps, fits) opens was legal m holds =
      subst (AreWhole begin read legal) (parts ∙ ap (λ (l : Entries). l ++ waiting) (sym (ap (λ (l : Entries). safe ++ l) none ∙ append-nil safe))) (all legal)
  whole_then read pairs is_disk parts all (Open p) (Kept q b) file goes opens was legal m holds = absurd goes

  module _ (alone : IfSome start.content (BeginsAlone begin)) (is_disk : IsDisk now) where
    -- what was taken from the file is old
    taken_old : (b c : Book) → IsFileAt begin start b now safe waiting before → FileGoes b c now mid Same before taken made after → (taken ≡ [])
        ⊎ ((waiting ≡ []) × ((was : Start) (legal : Entries) (m : Market) → HoldsLegal start was legal m → length (safe ++ taken) ≤ length legal))
    taken_old (Kept p a) (Kept q b) (none, along) (nothing, on) = inr (none, by)
      where
        by : (was : Start) (legal : Entries) (m : Market) → HoldsLegal start was legal m → length (safe ++ taken) ≤ length legal
        by was legal m holds =
            let here = along_later begin p q a b start now mid safe (safe ++ taken) before after along (on begin safe (along_now begin p a start now safe before is_disk along)) in
            let (others, parts) = old_parts begin was start legal m holds q b mid (safe ++ taken) after here alone in
            omega (arith, ap length parts, length-append (safe ++ taken) others)
    taken_old (Kept p a) (Open q) (none, along) (at, up, steps, fits) = inr (none, by)
      where
        by : (was : Start) (legal : Entries) (m : Market) → HoldsLegal start was legal m → length (safe ++ taken) ≤ length legal
        by was legal m holds =
            let gets = gets_later begin p q a start now mid safe (safe ++ taken) before at along (up begin safe (along_now begin p a start now safe before is_disk along)) in
            omega (arith, ap length (continued_old begin was start legal m holds (safe ++ taken) at gets.continues).0)
    taken_old (Open p) (Open q) file (none, still, same, steps, fits) = inl none
    taken_old (Open p) (Kept q b) file goes = absurd goes

    old_heard : (first : Entries) (b c : Book) → IsFileAt begin start b now safe waiting before → FileGoes b c now mid Same before taken made after → AreOthersOld start first safe → AreOthersOld start first (safe ++ taken)
    old_heard first b c file goes others = by (taken_old b c file goes)
      where
        by : (taken ≡ []) ⊎ ((waiting ≡ []) × ((was : Start) (legal : Entries) (m : Market) → HoldsLegal start was legal m → length (safe ++ taken) ≤ length legal)) → AreOthersOld start first (safe ++ taken)
        by (inl none) = subst (AreOthersOld start first) (sym (ap (λ (l : Entries). safe ++ l) none ∙ append-nil safe)) others
        by (inr (empty, old)) = λ was legal m holds. inr (old was legal m holds)

    old_begun : (pairs : Entries) → pairs ≡ safe ++ waiting → (b c : Book) → IsFileAt begin start b now safe waiting before → FileGoes b c now mid Same before taken made after → AreOthersOld start pairs ((safe ++ taken) ++ waiting)
    old_begun pairs parts b c file goes = by (taken_old b c file goes)
      where
        by : (taken ≡ []) ⊎ ((waiting ≡ []) × ((was : Start) (legal : Entries) (m : Market) → HoldsLegal start was legal m → length (safe ++ taken) ≤ length legal)) → AreOthersOld start pairs ((safe ++ taken) ++ waiting)
        by (inl none) = λ was legal m holds. inl (omega (arith, ap length parts, ap length none, length-append safe taken, length-append (safe ++ taken) waiting, length-append safe waiting))
        by (inr (empty, old)) = λ was legal m holds. inr (omega (arith, old was legal m holds, ap length empty, length-append (safe ++ taken) waiting))

  -- the order of all entries
  heard_order : (b c : Book) → IsFileAt begin start b now safe waiting before → FileGoes b c now mid Same before taken made after → (safe ++ waiting) ++ (taken ++ made) ≡ (safe ++ taken) ++ (waiting ++ made)
  heard_order (Kept p a) c file goes = rw file.0 (ap (λ (l : Entries). l ++ (taken ++ made)) (append-nil safe) ∙ sym (append_assoc safe taken made))
  heard_order (Open p) (Open q) file goes = rw goes.0 (append_assoc safe waiting made ∙ ap (λ (l : Entries). l ++ (waiting ++ made)) (sym (append-nil safe)))
  heard_order (Open p) (Kept q b) file goes = absurd goes

  -- those that were there before are first
  heard_others : (b c : Book) → IsFileAt begin start b now safe waiting before → FileGoes b c now mid Same before taken made after → (safe ++ taken) ++ waiting ≡ (safe ++ waiting) ++ taken
  heard_others (Kept p a) c file goes = rw file.0 (append-nil (safe ++ taken) ∙ ap (λ (l : Entries). l ++ taken) (sym (append-nil safe)))
  heard_others (Open p) (Open q) file goes = rw goes.0 (ap (λ (l : Entries). l ++ waiting) (append-nil safe) ∙ sym (append-nil (safe ++ waiting)))
  heard_others (Open p) (Kept q b) file goes = absurd goes

  -- where the next entry is
  heard_place : (b c : Book) (group : List ℕ) (more : ℕ) → IsFileAt begin start b now safe waiting before → FileGoes b c now mid Same before taken made after → group ≡ stored waiting → (c ≡ b) ⊎ (place_of c ≤ 2 ^ 60)
      → place_of b + length group ≤ 2 ^ 60 + more → place_of c + length group ≤ 2 ^ 60 + more
  heard_place b c group more file goes is (inl same) most = omega (arith, ap place_of same, most)
  heard_place (Kept p a) c group more file goes is (inr near) most = omega (arith, near, ap length (is ∙ ap stored file.0))
  heard_place (Open p) (Open q) group more file goes is (inr near) most = omega (arith, goes.1, most)
  heard_place (Open p) (Kept q b) group more file goes is near most = absurd goes

-- ---- a line that was heard and ended

module _ (begin : Start) (start now mid later : DiskState) (first out after : Output) (read : List (List ℕ)) (line : List ℕ) (h heard next : HostState) (SameHeard SameDisk SameOut : Type 0) (is_disk : IsDisk now)
    (is : IsAt begin start first read h now out) (hears : HearsLine line h heard now mid SameHeard) (ends : EndsLine heard next mid later out after SameDisk SameOut) where
  -- its entries joined those that wait, and nothing else was done
  abbrev Joins : Type 0
  Joins = (next.group ≡ heard.group ++ heard.fresh) × (next.book ≡ heard.book) × (next.session.talk.texts ≡ heard.session.talk.texts) × (next.written ≡ heard.written) × SameDisk × SameOut

  -- what waited was kept and written before
  abbrev BeginsGroup : Type 0
  BeginsGroup =
      (next.group ≡ heard.fresh) × KeepsWaiting heard next mid later SameDisk × Gains ⊥ out after (unwritten heard) × (drop next.written next.session.talk.texts ≡ drop heard.told heard.session.talk.texts)

  module _ (carry_heard : SameHeard → (P : DiskState → Type 0) → P now → P mid) (carry : SameDisk → (P : DiskState → Type 0) → P mid → P later) (carry_out : SameOut → (P : Output → Type 0) → P out → P after) (counts : CountsAccounts heard.session)
      (alone : IfSome start.content (BeginsAlone begin)) where
    -- the lines and this one
    all_hosted : AreHosted begin (read ++ line ∷ []) (is.pairs ++ (hears.taken ++ hears.made)) (is.texts ++ hears.texts) next.session.market next.session.talk.desks
    all_hosted =
        hosted_same begin (read ++ line ∷ []) (is.pairs ++ (hears.taken ++ hears.made)) (is.texts ++ hears.texts) heard.session.market next.session.market heard.session.talk.desks next.session.talk.desks ends.session.market ends.session.desks
        (hosted_more begin read line h.session.entries is.pairs (hears.taken ++ hears.made) is.texts hears.texts h.session.market heard.session.market h.session.talk.desks heard.session.talk.desks is.entries is.hosted hears.served)

    -- the file once it was heard
    file_mid : IsFileAt begin start heard.book mid (is.safe ++ hears.taken) (is.waiting ++ hears.made) heard.session.market
    file_mid = file_heard begin start now mid SameHeard is.safe is.waiting hears.taken hears.made h.session.market heard.session.market is_disk carry_heard h.book heard.book is.file hears.goes hears.more

    -- of each line all was kept, or none
    whole_mid : IsWholeAt begin start (read ++ line ∷ []) heard.book mid (is.safe ++ hears.taken)
    whole_mid =
        whole_more begin read (line ∷ []) start heard.book mid (is.safe ++ hears.taken)
        (whole_heard begin start now mid SameHeard is.safe is.waiting hears.taken hears.made h.session.market heard.session.market read is_disk carry_heard h.book heard.book is.file is.whole hears.goes)

    -- and all entries
    parts_mid : is.pairs ++ (hears.taken ++ hears.made) ≡ (is.safe ++ hears.taken) ++ (is.waiting ++ hears.made)
    parts_mid =
        ap (λ (l : Entries). l ++ (hears.taken ++ hears.made)) is.parts
        ∙ heard_order begin start now mid SameHeard is.safe is.waiting hears.taken hears.made h.session.market heard.session.market h.book heard.book is.file hears.goes

    -- its entries joined those that wait
    joined : Joins → IsAt begin start first (read ++ line ∷ []) next later after
    joined (group, book, texts, written, disk, output) = record {
      pairs = is.pairs ++ (hears.taken ++ hears.made);
      texts = is.texts ++ hears.texts;
      hosted = all_hosted;
      entries = omega (arith, ends.session.entries, hears.entries, is.entries, length-append is.pairs (hears.taken ++ hears.made));
      counts = same_counts heard.session next.session ends.session counts;
      none = ends.fresh;
      safe = is.safe ++ hears.taken;
      waiting = is.waiting ++ hears.made;
      parts = parts_mid;
      group = group ∙ ap (λ (l : List ℕ). l ++ heard.fresh) (hears.aside.group ∙ is.group) ∙ ap (λ (l : List ℕ). stored is.waiting ++ l) hears.fresh ∙ sym (stored_more is.waiting hears.made);
      file = subst (λ (m : Market). IsFileAt begin start next.book later (is.safe ++ hears.taken) (is.waiting ++ hears.made) m) (sym ends.session.market)
          (subst (λ (b : Book). IsFileAt begin start b later (is.safe ++ hears.taken) (is.waiting ++ hears.made) heard.session.market) (sym book)
          (carry disk (λ (s : DiskState). IsFileAt begin start heard.book s (is.safe ++ hears.taken) (is.waiting ++ hears.made) heard.session.market) file_mid));
      whole = subst (λ (b : Book). IsWholeAt begin start (read ++ line ∷ []) b later (is.safe ++ hears.taken)) (sym book) (carry disk (λ (s : DiskState). IsWholeAt begin start (read ++ line ∷ []) heard.book s (is.safe ++ hears.taken)) whole_mid);
      all_told = ends.told;
      order = ends.within;
      gone = is.gone;
      said = said_more is.texts is.gone h.session.talk.texts hears.texts next.session.talk.texts h.told h.written next.written is.said is.all_told is.order (texts ∙ hears.said) (written ∙ hears.aside.written);
      gained = carry_out output (λ (o : Output). Gains ⊥ first o is.gone) is.gained;
      told = told_more begin start read (line ∷ []) is.gone is.safe hears.taken
          (λ first others. old_heard begin start now mid SameHeard is.safe is.waiting hears.taken hears.made h.session.market heard.session.market alone is_disk first h.book heard.book is.file hears.goes others) is.told;
    }

    -- of each line all was kept, or none, once what waited before was kept
    whole_group : KeepsWaiting heard next mid later SameDisk → IsWholeAt begin start (read ++ line ∷ []) next.book later ((is.safe ++ hears.taken) ++ is.waiting)
    whole_group keeps =
        whole_kept begin start mid later (read ++ line ∷ []) heard.book next.book heard.group (is.safe ++ hears.taken) is.waiting hears.made heard.session.market SameDisk carry file_mid whole_mid (hears.aside.group ∙ is.group)
        (whole_then begin start now mid SameHeard is.safe is.waiting hears.taken hears.made h.session.market heard.session.market (read ++ line ∷ []) is.pairs is_disk is.parts all h.book heard.book is.file hears.goes) keeps
      where
        all : (legal : Entries) → AreWhole begin (read ++ line ∷ []) legal is.pairs
        all legal = whole_also begin read (line ∷ []) legal is.pairs (whole_lines begin read legal is.pairs is.texts h.session.market h.session.talk.desks is.hosted)

    -- what waited before was kept and written
    begun : BeginsGroup → IsAt begin start first (read ++ line ∷ []) next later after
    begun (group, keeps, gains, left) =
        let write : unwritten heard ≡ drop h.written h.session.talk.texts = rw (hears.aside.told, hears.aside.written, hears.said) (to_write h.session.talk.texts hears.texts h.told h.written is.all_told is.order) in
        let own : drop next.written next.session.talk.texts ≡ hears.texts = left ∙ rw (hears.aside.told, hears.said) (left_after h.session.talk.texts hears.texts h.told is.all_told) in
        record {
          pairs = is.pairs ++ (hears.taken ++ hears.made);
          texts = is.texts ++ hears.texts;
          hosted = all_hosted;
          entries = omega (arith, ends.session.entries, hears.entries, is.entries, length-append is.pairs (hears.taken ++ hears.made));
          counts = same_counts heard.session next.session ends.session counts;
          none = ends.fresh;
          safe = (is.safe ++ hears.taken) ++ is.waiting;
          waiting = hears.made;
          parts = parts_mid ∙ sym (append_assoc (is.safe ++ hears.taken) is.waiting hears.made);
          group = group ∙ hears.fresh;
          file = subst (λ (m : Market). IsFileAt begin start next.book later ((is.safe ++ hears.taken) ++ is.waiting) hears.made m) (sym ends.session.market)
              (file_kept begin start mid later heard.book next.book heard.group (is.safe ++ hears.taken) is.waiting hears.made heard.session.market SameDisk carry file_mid (hears.aside.group ∙ is.group) keeps);
          whole = whole_group keeps;
          all_told = ends.told;
          order = ends.within;
          gone = is.texts;
          said = ap (λ (l : Texts). is.texts ++ l) (sym own);
          gained = gained_all first out after is.texts is.gone (drop h.written h.session.talk.texts) (unwritten heard) is.said write is.gained gains;
          told = (
            read,
            line ∷ [],
            refl,
            is.pairs,
            hears.taken,
            heard_others begin start now mid SameHeard is.safe is.waiting hears.taken hears.made h.session.market heard.session.market h.book heard.book is.file hears.goes ∙ ap (λ (l : Entries). l ++ hears.taken) (sym is.parts),
            h.session.market,
            h.session.talk.desks,
            is.hosted,
            old_begun begin start now mid SameHeard is.safe is.waiting hears.taken hears.made h.session.market heard.session.market alone is_disk is.pairs is.parts h.book heard.book is.file hears.goes,
          );
        }

    -- the line was heard too
    pub at_line : IsAt begin start first (read ++ line ∷ []) next later after
    at_line = either ends.joins
      where
        either : Joins ⊎ BeginsGroup → IsAt begin start first (read ++ line ∷ []) next later after
        either (inl joins) = joined joins
        either (inr begins) = begun begins

  -- and so a line more is counted
  pub within_line : (lines : ℕ) → ((used : ℕ) → IsWithin used h.session → IsWithin (used + 33) heard.session) → length heard.fresh ≤ longest_stored_entry → (heard.book ≡ h.book) ⊎ (place_of heard.book ≤ 2 ^ 60)
      → (length heard.fresh ≤ 1048576 → length next.group ≤ 1048576) → IsWithinLines lines h → IsWithinLines (lines + 1) next
  within_line lines room few near short within = record {
    within = same_within (33 * (lines + 1)) heard.session next.session ends.session (within_more (33 * lines + 33) (33 * (lines + 1)) heard.session (omega arith) (room (33 * lines) within.within));
    place = at_most ends.joins;
    short = omega (arith, short (omega (arith, few)));
  }
    where
      before : place_of heard.book + length h.group ≤ 2 ^ 60 + longest_stored_entry * lines
      before =
          heard_place begin start now mid SameHeard is.safe is.waiting hears.taken hears.made h.session.market heard.session.market h.book heard.book h.group (longest_stored_entry * lines) is.file hears.goes is.group near within.place

      at_most : Joins ⊎ BeginsGroup → place_of next.book + length next.group ≤ 2 ^ 60 + longest_stored_entry * (lines + 1)
      at_most (inl (group, book, texts, written, disk, output)) = omega (arith, before, few, ap place_of book, ap length group, length-append heard.group heard.fresh, ap length hears.aside.group)
      at_most (inr (group, keeps, gains, left)) = omega (arith, before, few, place_kept heard.book next.book heard.group mid later SameDisk keeps, ap length group, ap length hears.aside.group)
