-- Texts that are written one after the other: one more, all of them, and the first of them.
use Rattle.std.proofs.Common.{◌≡◌, ◌≢◌, inl, inr, ℕ, ◌+◌, ◌-◌, ◌<◌, ◌≤◌, List, [], ◌∷◌, ◌++◌, length, take, drop, replicate, get_or, refl, sym, ap, subst, ◌∙◌, arith}
use Rattle.std.specs.Prelude.{⊤}
use Rattle.std.proofs.lemmas.List.{take_more, take-take, get_or-drop, length-drop, length-replicate}
use Rattle.flow_io.specs.Streams.{Grows, GrowsByPrefix}
use Rattle.flow_orders.specs.Outcomes.{IsAdmissibleOutcome}
use Rattle.disk_edge.specs.Disks.{DiskState}
use Rattle.journal_keeping.specs.Outputs.{Output, Gains}
use Rattle.journal_keeping.proofs.Gaining.{gains_none, gains_one, gains_cut, gains_more}
use Rattle.desk_session.specs.States.{State}
use Rattle.desk_session.specs.Said.{IsAnswered}
use Rattle.desk_session.proofs.Going.{line_by_any}
use Rattle.desk_opening.specs.Books.{AddsTo, LeavesWithOrWithout}
use Rattle.desk_opening.specs.declared.book.Book.{Book}
use Rattle.desk_keeping.specs.Hosting.{Texts}
use Rattle.desk_keeping.specs.Private.{HostState, WritesFirst, WritesTexts, KeepsWaiting, KeepsGroup, AnswersLong}

-- the texts from one place up to another
abbrev pub between : Texts → ℕ → ℕ → Texts
between texts from to = take (to - from) (drop from texts)

-- up to one place further
pub between_more : (texts : Texts) (from place : ℕ) (text : List ℕ) → from ≤ place → place < length texts → text ≡ get_or texts place [] → between texts from (place + 1) ≡ between texts from place ++ text ∷ []
between_more texts from place text after inside is =
    let k = place - from in
    let further : place + 1 - from ≡ k + 1 = omega (arith, after) in
    let here : from + k ≡ place = omega (arith, after) in
    ap (λ n. take n (drop from texts)) further ∙ take_more (drop from texts) k [] (omega (arith, length-drop from texts, inside, after))
    ∙ ap (λ (t : List ℕ). between texts from place ++ t ∷ []) (get_or-drop from texts k [] ∙ ap (λ n. get_or texts n []) here ∙ sym is)

-- nothing was written yet
pub wrote_none : (out : Output) (texts : Texts) (from : ℕ) → Gains ⊥ out out (between texts from from)
wrote_none out texts from =
    let none : from - from ≡ 0 = omega arith in
    subst (λ n. Gains ⊥ out out (take n (drop from texts))) (sym none) (gains_none ⊥ out)

-- one text more was written
pub wrote_more : (out mid later : Output) (texts : Texts) (from place : ℕ) (text : List ℕ) → from ≤ place → place < length texts → text ≡ get_or texts place [] → Gains ⊥ out mid (between texts from place)
    → Grows mid.calls later.calls (text ∷ []) → Grows mid.held later.held text → Gains ⊥ out later (between texts from (place + 1))
wrote_more out mid later texts from place text after inside is so_far called grows =
    subst (λ (l : Texts). Gains ⊥ out later l) (sym (between_more texts from place text after inside is))
    (gains_more ⊥ out mid later (between texts from place) (text ∷ []) so_far (gains_one ⊥ mid later text called grows))

-- one text was cut short
pub wrote_first : (h : HostState) (out mid later : Output) (place : ℕ) (text : List ℕ) → h.written ≤ place → place < h.told → h.told ≤ length h.session.talk.texts → text ≡ get_or h.session.talk.texts place []
    → Gains ⊥ out mid (between h.session.talk.texts h.written place) → Grows mid.calls later.calls (text ∷ []) → GrowsByPrefix mid.held later.held text → WritesFirst h out later
wrote_first h out mid later place text after before within is so_far called cut =
    let texts = h.session.talk.texts in
    let count = place + 1 - h.written in
    let few : count ≤ h.told - h.written = omega (arith, before, after) in (
      count,
      few,
      subst (λ (l : Texts). Gains ⊤ out later l) (sym (take-take count (h.told - h.written) (drop h.written texts) few ∙ between_more texts h.written place text after (omega (arith, before, within)) is))
          (gains_more ⊤ out mid later (between texts h.written place) (text ∷ []) so_far (gains_cut mid later text called cut)),
    )

-- ---- a group that is kept, and then its texts are written

-- the entries that waited were kept, or there were none
pub waiting_kept : (old new : HostState) (book : Book) (disk now : DiskState) (SameDisk : Type 0) → new.book ≡ book → (old.group ≡ [] → (book ≡ old.book) × SameDisk) → (old.group ≢ [] → AddsTo old.group old.book book disk now)
    → (old.group ≢ [] → LeavesWithOrWithout old.group old.book disk now) → KeepsWaiting old new disk now SameDisk
waiting_kept old new book disk now SameDisk same still kept moments = by old.group refl
  where
    by : (group : List ℕ) → old.group ≡ group → KeepsWaiting old new disk now SameDisk
    by [] none = let same_book = still none in inl (none, same ∙ same_book.0, same_book.1)
    by (byte ∷ bytes) some =
        let not : old.group ≢ [] = λ none. cc in
        inr (not, subst (λ (b : Book). AddsTo old.group old.book b disk now) (sym same) (kept not), moments not)

-- they were kept, and all texts of complete lines written
pub group_kept : (old mid new : HostState) (disk now : DiskState) (out later : Output) (SameDisk : Type 0) → mid.session ≡ old.session → mid.told ≡ old.told → mid.written ≡ old.written → mid.group ≡ [] → mid.fresh ≡ old.fresh
    → KeepsWaiting old new disk now SameDisk → WritesTexts mid new out later → new.group ≡ mid.group → new.fresh ≡ mid.fresh → KeepsGroup old new disk now out later SameDisk
group_kept old mid new disk now out later SameDisk session told written group fresh keeps writes same_group same_fresh = record {
  keeps = keeps;
  group = same_group ∙ group;
  fresh = same_fresh ∙ fresh;
  session = record {
    market = writes.session.market ∙ ap (λ (s : State). s.market) session;
    desks = writes.session.desks ∙ ap (λ (s : State). s.talk.desks) session;
    entries = writes.session.entries ∙ ap (λ (s : State). s.entries) session;
  };
  gained = rw (session, told, written) at writes.gained;
  left = rw (session, told) at writes.left;
  told = writes.told;
  within = writes.within;
}

-- ---- a line that is too long

-- what holds of each longer list holds of one
pub of_some_longer : (size : ℕ) (P : List ℕ → Type 0) (Q : Type 0) → ((line : List ℕ) → size < length line → P line) → ((line : List ℕ) → P line → Q) → Q
of_some_longer size P Q each so = let byte : ℕ = 0 in let line : List ℕ = replicate (size + 1) byte in so line (each line (omega (arith, length-replicate (size + 1) byte)))

-- one that was answered adds no entry, whatever the rule
pub long_answered : (old new : HostState) (line : List ℕ) → IsAnswered old.session line new.session → new.book ≡ old.book → new.group ≡ old.group → new.fresh ≡ old.fresh → new.written ≡ old.written → AnswersLong line old new
long_answered old new line (texts, served, said, entries) book group fresh written = record {
  texts = texts;
  served = line_by_any IsAdmissibleOutcome old.session.market new.session.market old.session.talk.desks new.session.talk.desks old.session.entries line texts served;
  said = said;
  entries = entries;
  book = book;
  group = group;
  fresh = fresh;
  written = written;
}
