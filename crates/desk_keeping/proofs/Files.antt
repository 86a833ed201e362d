-- A file from one call to the next: it is read along, or was read to its end, or gets more.
use Rattle.std.proofs.Common.{◌≡◌, ℕ, List, [], ◌∷◌, ◌++◌, Option, IfSome, IsSome, map, refl, sym, ap, subst, ◌∙◌, append_assoc}
use Rattle.std.proofs.lemmas.List.{append-nil}
use Rattle.std.specs.Prelude.{All, ⊤}
use Rattle.std.proofs.lemmas.List.Elements.{All-nil, All-cons, All-append}
use Rattle.wire_records.specs.Records.{Record}
use Rattle.wire_records.specs.Commands.{Pair}
use Rattle.flow_orders.specs.Outcomes.{Outcome}
use Rattle.wire_records.specs.Versions.{IsReadAs}
use Rattle.wire_records.proofs.Readings.{reading_unique}
use Rattle.canonical_rule.specs.Canonical.{IsCanonicalOutcome}
use Rattle.journal_records.specs.Pairs.{IsPair}
use Rattle.journal_records.specs.Formats.{records_of}
use Rattle.market_rules.specs.Market.{Market}
use Rattle.market_rules.specs.Journal.{Step, Follows}
use Rattle.market_rules.proofs.OneJournal.{follows-append}
use Rattle.market_history.specs.Histories.{Start}
use Rattle.disk_edge.specs.Disks.{DiskState, IsDisk}
use Rattle.journal_disk.specs.Ahead.{AheadState}
use Rattle.journal_disk.specs.Entries.{IsNewDisk, Keeps}
use Rattle.journal_disk.specs.Recovering.{IsForeign}
use Rattle.journal_disk.specs.Looking.{OnlyLooks}
use Rattle.journal_disk.proofs.GoingOn.{looks_more, looks_none}
use Rattle.journal_keeping.specs.Starts.{head_of}
use Rattle.journal_keeping.proofs.Begun.{looks_first, looked_legal}
use Rattle.desk_opening.specs.Books.{CanFind, IsReadAlong, GetsMore, Continues}
use Rattle.desk_opening.proofs.Along.{along_finds}
use Rattle.desk_opening.specs.declared.book.Book.{Book}
use Rattle.desk_opening.specs.declared.book.Book.TheVariants.{Kept, Open}
use Rattle.desk_keeping.specs.Hosting.{Entries}
use Rattle.desk_keeping.specs.Private.{ReadsOn, ReadsUp, CanRead, FileGoes, LeavesFile, IsOpen}
use Rattle.desk_keeping.proofs.KeepingNone.{none_continued}

-- what is known of a content is known of the same content
pub moved : (content now : Option (List ℕ)) (P : List ℕ → Type 0) → now ≡ content → IfSome content P → IfSome now P
moved content now P same is = subst (λ (o : Option (List ℕ)). IfSome o P) (sym same) is

-- ---- one file that is read along

-- also from now on
pub along_now : (begin : Start) (place : ℕ) (ahead : AheadState) (start now : DiskState) (pairs : Entries) (market : Market) → IsDisk now → IsReadAlong begin place ahead start now pairs market → IsReadAlong begin place ahead now now pairs market
along_now begin place ahead start now pairs market is_disk along = record {
  journal = along.journal;
  looks = looks_none now is_disk;
  known = moved start.content now.content (λ held. (¬ IsNewDisk held) × (¬ IsForeign held)) along.looks.content along.known;
  piece = along.piece;
  holds = along.holds;
}

-- and further, from an earlier moment
pub along_later : (begin : Start) (place later : ℕ) (ahead next : AheadState) (start mid now : DiskState) (pairs more : Entries) (market new : Market) → IsReadAlong begin place ahead start mid pairs market
    → IsReadAlong begin later next mid now more new → IsReadAlong begin later next start now more new
along_later begin place later ahead next start mid now pairs more market new first second = record {
  journal = second.journal;
  looks = looks_more start mid now first.looks second.looks;
  known = first.known;
  piece = second.piece;
  holds = second.holds;
}

-- it gets more, from an earlier moment
pub gets_later : (begin : Start) (place later : ℕ) (ahead : AheadState) (start mid now : DiskState) (pairs more : Entries) (market new : Market) → IsReadAlong begin place ahead start mid pairs market
    → GetsMore begin later mid now more new → GetsMore begin later start now more new
gets_later begin place later ahead start mid now pairs more market new along gets = record {
  journal = gets.journal;
  continues = moved mid.content start.content (λ held. Continues held begin more new) (sym along.looks.content) gets.continues;
  keeps = moved mid.content start.content (λ _. Keeps (head_of begin) (map records_of more) later now) (sym along.looks.content) gets.keeps;
  moments = λ was legal m holds. looks_first begin legal start mid now along.looks (gets.moments was legal m (looked_legal was legal m start mid holds along.looks));
  told = λ is. subst (λ (o : Option (List ℕ)). IsSome o) along.looks.content (gets.told is);
  near = gets.near;
}

-- ---- several calls

-- nothing was done
pub goes_none : (b : Book) (disk : DiskState) (Same : Type 0) (market : Market) → Same → FileGoes b b disk disk Same market [] [] market
goes_none (Kept place ahead) disk Same market same =
    (refl, λ begin pairs along. subst (λ (l : Entries). IsReadAlong begin place ahead disk disk l market) (sym (append-nil pairs)) along)
goes_none (Open place) disk Same market same = (refl, refl, same, refl, All-nil IsPair)

module _ (disk mid now : DiskState) (is_disk : IsDisk mid) (m n : Market) where
  reads_more : (k : Market) (place next last : ℕ) (a b c : AheadState) (first more : Entries) → ReadsOn place next a b disk mid m first n → ReadsOn next last b c mid now n more k → ReadsOn place last a c disk now m (first ++ more) k
  reads_more k place next last a b c first more one two begin pairs along =
      let to_mid = one begin pairs along in
      let on = two begin (pairs ++ first) (along_now begin next b disk mid (pairs ++ first) n is_disk to_mid) in
      subst (λ (l : Entries). IsReadAlong begin last c disk now l k) (append_assoc pairs first more)
      (along_later begin next last b c disk mid now (pairs ++ first) ((pairs ++ first) ++ more) n k to_mid on)

  reads_to_end : (k : Market) (place next last : ℕ) (a b : AheadState) (first more : Entries) → ReadsOn place next a b disk mid m first n → ReadsUp next last b mid now n more k → ReadsUp place last a disk now m (first ++ more) k
  reads_to_end k place next last a b first more one two begin pairs along =
      let to_mid = one begin pairs along in
      let on = two begin (pairs ++ first) (along_now begin next b disk mid (pairs ++ first) n is_disk to_mid) in
      subst (λ (l : Entries). GetsMore begin last disk now l k) (append_assoc pairs first more)
      (gets_later begin next last b disk mid now (pairs ++ first) ((pairs ++ first) ++ more) n k to_mid on)

  -- one call, followed by another
  module _ (One Two Both : Type 0) (both : One → Two → Both) (carry : Two → (P : DiskState → Type 0) → P mid → P now) (k : Market) (t u v w : Entries) where
    pub goes_more : (b c d : Book) → FileGoes b c disk mid One m t u n → FileGoes c d mid now Two n v w k → FileGoes b d disk now Both m (t ++ v) (u ++ w) k
    goes_more (Kept p a) (Kept q b) (Kept r c) (none, one) (nothing, two) = (rw (none, nothing) refl, reads_more k p q r a b c t v one two)
    goes_more (Kept p a) (Kept q b) (Open r) (none, one) (at, two, steps, fits) = (
      at,
      reads_to_end at p q r a b t v one two,
      subst (λ (l : Entries). Follows IsReadAs IsCanonicalOutcome at l k) (sym (no_more none)) steps,
      subst (λ (l : Entries). All IsPair l) (sym (no_more none)) fits,
    )
      where
        no_more : u ≡ [] → u ++ w ≡ w
        no_more is = ap (λ (l : Entries). l ++ w) is
    goes_more (Kept p a) (Open q) (Open r) (at, one, steps, fits) (none, same, two, more, others) = (
      at,
      subst (λ (l : Entries). ReadsUp p r a disk now m l at) (sym (ap (λ (l : Entries). t ++ l) none ∙ append-nil t))
          (subst (λ (x : ℕ). ReadsUp p x a disk now m t at) (sym same) (carry two (λ s. ReadsUp p q a disk s m t at) one)),
      follows-append IsReadAs reading_unique IsCanonicalOutcome at n k u w steps more,
      All-append IsPair u w fits others,
    )
    goes_more (Open p) (Open q) (Open r) (none, same, one, steps, fits) (nothing, still, two, more, others) = (
      rw (none, nothing) refl,
      still ∙ same,
      both one two,
      follows-append IsReadAs reading_unique IsCanonicalOutcome m n k u w steps more,
      All-append IsPair u w fits others,
    )
    goes_more (Open p) (Kept q b) d one two = absurd one
    goes_more (Kept p a) (Open q) (Kept r c) one two = absurd two
    goes_more (Open p) (Open q) (Kept r c) one two = absurd two

    -- their entries in order
    pub in_order : (b c d : Book) → FileGoes b c disk mid One m t u n → FileGoes c d mid now Two n v w k → (t ++ u) ++ (v ++ w) ≡ (t ++ v) ++ (u ++ w)
    in_order (Kept p a) (Kept q b) d (none, one) two = rw none (ap (λ (l : Entries). l ++ (v ++ w)) (append-nil t) ∙ sym (append_assoc t v w))
    in_order (Kept p a) (Open q) (Open r) one (none, same, two, more, others) = rw none (append_assoc t u w ∙ ap (λ (l : Entries). l ++ (u ++ w)) (sym (append-nil t)))
    in_order (Open p) (Open q) (Open r) one (none, same, two, more, others) = rw none (append_assoc t u w ∙ ap (λ (l : Entries). l ++ (u ++ w)) (sym (append-nil t)))
    in_order (Open p) (Kept q b) d one two = absurd one
    in_order (Kept p a) (Open q) (Kept r c) one two = absurd two
    in_order (Open p) (Open q) (Kept r c) one two = absurd two

-- ---- a file that can be read on

pub reads_on : (b : Book) (disk : DiskState) (m : Market) → CanRead b disk m → CanFind b disk
reads_on (Kept place ahead) disk m (begin, pairs, along) = along_finds begin disk disk pairs m place ahead along
reads_on (Open place) disk m can = tt

-- also after a call
pub reads_next : (b n : Book) (disk now : DiskState) (Same : Type 0) (m k : Market) (taken made : Entries) → IsDisk now → CanRead b disk m → FileGoes b n disk now Same m taken made k → CanRead n now k
reads_next (Kept p a) (Kept q c) disk now Same m k taken made is_disk (begin, pairs, along) (none, reads) = (begin, pairs ++ taken, along_now begin q c disk now (pairs ++ taken) k is_disk (reads begin pairs along))
reads_next (Kept p a) (Open q) disk now Same m k taken made is_disk can goes = tt
reads_next (Open p) (Open q) disk now Same m k taken made is_disk can goes = tt
reads_next (Open p) (Kept q c) disk now Same m k taken made is_disk can goes = absurd goes

-- what a crash leaves of a file that has no more entries
pub leaves_goes : (b n : Book) (disk now : DiskState) (Same : Type 0) (m k : Market) (taken made : Entries) → IsOpen n → FileGoes b n disk now Same m taken made k → LeavesFile b disk now Same m
leaves_goes (Kept p a) (Open q) disk now Same m k taken made opens goes = λ begin pairs along. (
  (λ was legal r holds. (goes.1 begin pairs along).moments was legal r holds),
  none_continued disk.content begin (pairs ++ taken) goes.0 (OnlyLooks disk now) (goes.1 begin pairs along).continues,
)
leaves_goes (Open p) (Open q) disk now Same m k taken made opens goes = goes.2
leaves_goes (Kept p a) (Kept q c) disk now Same m k taken made opens goes = absurd opens
leaves_goes (Open p) (Kept q c) disk now Same m k taken made opens goes = absurd opens

-- an entry was made
pub makes_one : (b : Book) (disk : DiskState) (m k : Market) (pair : Pair Record Outcome) → IsOpen b → Step IsReadAs IsCanonicalOutcome m pair.asked pair.answer k → IsPair pair → FileGoes b b disk disk ⊤ m [] (pair ∷ []) k
makes_one (Open p) disk m k pair opens step fits = (refl, refl, tt, (k, step, refl), All-cons IsPair pair [] fits (All-nil IsPair))
makes_one (Kept p a) disk m k pair opens step fits = absurd opens
