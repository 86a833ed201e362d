-- The book of a file that begins as the input does, or why there is none.
use Rattle.std.proofs.Common.{◌≡◌, ◌⊎◌, inr, ℕ, ◌+◌, ◌*◌, ◌≤◌, ◌^◌, List, [], ◌∷◌, Option, Some, None, IfSome, IsSome, Bool, IsTrue, length, refl, sym, ap, subst, ◌∙◌, arith, length-append}
use Rattle.wire_records.specs.declared.version.Version.{Version}
use Rattle.market_rules.specs.Market.{Market}
use Rattle.market_snapshot.specs.Checkpoints.{checkpoint_bytes}
use Rattle.market_history.specs.Histories.{Start, Empty, Kept}
use Rattle.disk_edge.specs.Disks.{DiskState, AtEachMoment}
use Rattle.disk_edge.specs.Images.{LeavesOnly}
use Rattle.disk_edge.proofs.Moments.{weaker}
use Rattle.journal_disk.specs.Entries.{IsHead, entries, framed, IsNewDisk, StandsFor, Holds, Keeps}
use Rattle.journal_disk.specs.Recovering.{IsFound}
use Rattle.journal_disk.specs.Ahead.{AheadState, IsPiece}
use Rattle.journal_disk.specs.Looking.{OnlyLooks}
use Rattle.journal_disk.specs.Lengths.{HasAtMost, ReachesAtMost}
use Rattle.journal_disk.proofs.Entries.{length-framed}
use Rattle.journal_disk.proofs.GoingOn.{looks_hold}
use Rattle.journal_keeping.specs.Starts.{version_of, head_of}
use Rattle.journal_keeping.specs.Beginning.{IsStored}
use Rattle.journal_keeping.proofs.Auditing.{none_read}
use Rattle.journal_keeping.proofs.Beginnings.{bare_place}
use Rattle.journal_keeping.proofs.Begun.{makes_new}
use Rattle.journal_keeping.proofs.Counts.{if_some}
use Rattle.journal_keeping.proofs.ShortCheckpoints.{starts_begin_files}
use Rattle.journal_keeping.proofs.Starts.{version_is}
use Rattle.desk_opening.specs.declared.book.Book.TheVariants as book
use Rattle.desk_opening.specs.Beginnings.{bytes_before, IsBeginning, TellsBeginning}
use Rattle.desk_opening.specs.Books.{Continues}
use Rattle.desk_opening.specs.Openings.{GrowsBy, BeginsAlone, BeginsOtherwise, WasMaking}
use Rattle.desk_opening.specs.Private.{BeginsSomehow, MakesBook}
use Rattle.desk_opening.proofs.LongCheckpoints.{checkpoint_long}
use Rattle.desk_opening.proofs.FirstFiles.{still}

-- a disk that was only looked at
pub grows_looked : (size : ℕ) (start now : DiskState) → OnlyLooks start now → GrowsBy size start now
grows_looked size start now looks = λ least nine short. weaker start now start.images (HasAtMost (least + size)) (λ image left. omega (arith, short image left)) looks.moments

-- a content that wasn't lost
told_looked : (start now : DiskState) → OnlyLooks start now → IsSome now.content → IsSome start.content
told_looked start now looks some = subst (λ (o : Option (List ℕ)). IsSome o) looks.content some

-- ---- a file of a version, which is compared with an input

module _ (version : Version) (place : ℕ) (start now : DiskState) (found : IfSome start.content (BeginsSomehow version place start)) (looks : OnlyLooks start now)
    (same : Bool) (begin : Start) (market : Market) (stored : List ℕ) (is : IsBeginning begin market stored)
    (tells : (bytes : List ℕ) (b : Start) → start.content ≡ Some bytes → IsBeginning b market stored → TellsBeginning same b version bytes place start) where
  -- it begins as the input does
  holds_so : IsTrue same → (o : Option (List ℕ)) → start.content ≡ o → IfSome o (BeginsSomehow version place start) → IfSome o (λ _. (left : List ℕ) × Holds (head_of begin) [] place left now)
  holds_so yes_same None told f = tt
  holds_so yes_same (Some held) told f =
      let at = f.3 in
      (at.rest, looks_hold (head_of begin) [] place at.rest start now (subst (λ (b : Start). Holds (head_of b) [] place at.rest start) ((tells held begin told is f.2 at).0 yes_same) at.holds) looks)

  -- it has no checkpoint if that has none
  alone_so : IsTrue same → (o : Option (List ℕ)) → start.content ≡ o → IfSome o (BeginsSomehow version place start) → IfSome o (BeginsAlone begin)
  alone_so yes_same None told f = tt
  alone_so yes_same (Some held) told f =
      let at = f.3 in
      let same_begin = (tells held begin told is f.2 at).0 yes_same in
      by begin (subst (λ (b : Start). place ≡ length (entries (head_of b) [])) same_begin at.holds.begins)
    where
      by : (b : Start) → place ≡ length (entries (head_of b) []) → BeginsAlone b held
      by (Empty v) here = λ old. f.3.unfit (here ∙ bare_place (Empty v) [] (v, refl, refl))
      by (Kept of) here = tt

  pub kept_book : IsTrue same → (next : AheadState) → IfSome now.content (IsPiece next) → place ≤ 2 ^ 60 → MakesBook begin market (book.Kept place next) start now
  kept_book yes_same next piece near = record {
    after = record {
      journal = none_read begin market is.starts is.market_is;
      looks = looks;
      known = if_some start.content _ _ (λ (held : List ℕ) f. (f.0, f.1)) found;
      piece = piece;
      holds = still start now (λ _. (left : List ℕ) × Holds (head_of begin) [] place left now) looks (holds_so yes_same start.content refl found);
    };
    alone = alone_so yes_same start.content refl found;
    only_new = tt;
    near = near;
    lengths = grows_looked (2 * length (bytes_before begin)) start now looks;
    told = told_looked start now looks;
  }

  -- it begins otherwise
  pub begins_otherwise : (¬ IsTrue same) → IfSome start.content (λ held. BeginsOtherwise begin held now)
  begins_otherwise other = by_cases start.content refl found
    where
      by_cases : (o : Option (List ℕ)) → start.content ≡ o → IfSome o (BeginsSomehow version place start) → IfSome o (λ held. BeginsOtherwise begin held now)
      by_cases None told f = tt
      by_cases (Some held) told f =
          let at = f.3 in (
            f.0,
            f.1,
            version,
            f.2,
            place,
            record {
              begin = at.begin;
              starts = at.starts;
              market_is = at.market_is;
              version_is = at.version_is;
              rest = at.rest;
              holds = looks_hold (head_of at.begin) [] place at.rest start now at.holds looks;
              unfit = at.unfit;
            },
            λ e. other ((tells held begin told is f.2 at).1 e),
          )

-- ---- a new file

-- a first entry as it is stored is short
pub stored_short : (begin : Start) (market : Market) (stored : List ℕ) → IsBeginning begin market stored → length stored ≤ 2 ^ 33
stored_short begin market stored is = by_cases begin is.stored_is (starts_begin_files begin is.starts)
  where
    by_cases : (b : Start) → IsStored b stored → IsHead (head_of b) → length stored ≤ 2 ^ 33
    by_cases (Empty version) none head = omega (arith, ap length none)
    by_cases (Kept of) so head = omega (arith, ap length so, length-append (framed (checkpoint_bytes of)) (0 ∷ []), length-framed (checkpoint_bytes of), head.1)

-- it has at most twice as many bytes as the checkpoint
stored_few : (begin : Start) (stored : List ℕ) → IsStored begin stored → length stored ≤ 2 * length (bytes_before begin)
stored_few (Empty version) stored none = omega (arith, ap length none)
stored_few (Kept of) stored so = omega (arith, ap length so, length-append (framed (checkpoint_bytes of)) (0 ∷ []), length-framed (checkpoint_bytes of), checkpoint_long of)

module _ (start now : DiskState) (version : Version) (begin : Start) (market : Market) (stored : List ℕ) (is : IsBeginning begin market stored) (is_version : version ≡ market.version)
    (found : IfSome start.content (λ held. IsFound None held start))
    (moments : (bytes : List ℕ) (b : Start) → start.content ≡ Some bytes → LeavesOnly start.images bytes → version_of b ≡ version → IsHead (head_of b) → IsStored b stored
    → AtEachMoment start now (λ image. IsNewDisk image ⊎ StandsFor (head_of b) [] image))
    (reach : ReachesAtMost (9 + length stored) start now) where
  lawful : IsHead (head_of begin)
  lawful = starts_begin_files begin is.starts

  of : version_of begin ≡ version
  of = sym (version_is begin) ∙ ap (λ (m : Market). m.version) (sym is.market_is) ∙ sym is_version

  -- what a crash leaves while it is made one that begins so
  pub was_making : WasMaking begin start now
  was_making = record {
    is_new = if_some start.content _ _ (λ (held : List ℕ) new. (new.0, new.1)) found;
    moments = λ was old m holds. makes_new start was old m holds now begin found (λ bytes told only. moments bytes begin told only of lawful is.stored_is);
    lengths = λ least nine short. reach (least + 2 * length (bytes_before begin)) (omega (arith, nine, stored_few begin stored is.stored_is)) (λ image left. omega (arith, short image left));
  }

  -- a new file has no first entry
  alone_new : (b : Start) (held : List ℕ) → IsFound None held start → BeginsAlone b held
  alone_new (Empty v) held new = λ old. absurd (old new.0)
  alone_new (Kept of) held new = tt

  -- it was made one that begins so
  pub new_book : (place : ℕ) → IfSome start.content (λ _. (b : Start) → version_of b ≡ version → IsHead (head_of b) → IsStored b stored → Keeps (head_of b) [] place now)
      → (IsSome now.content → IsSome start.content) → place ≤ 8 + length stored → MakesBook begin market (book.Open place) start now
  new_book place keeps told at = record {
    after = record {
      journal = none_read begin market is.starts is.market_is;
      continues = if_some start.content (λ held. IsFound None held start) (λ held. Continues held begin [] market) (λ held new. inr ((new.0, new.1), refl, is.market_is)) found;
      keeps = if_some start.content (λ _. (b : Start) → version_of b ≡ version → IsHead (head_of b) → IsStored b stored → Keeps (head_of b) [] place now) (λ _. Keeps (head_of begin) [] place now) (λ held kept. kept begin of lawful is.stored_is) keeps;
      moments = was_making.moments;
      told = told;
      near = omega (arith, at, stored_short begin market stored is);
    };
    alone = if_some start.content (λ held. IsFound None held start) (BeginsAlone begin) (alone_new begin) found;
    only_new = was_making.is_new;
    near = omega (arith, at, stored_short begin market stored is);
    lengths = was_making.lengths;
    told = told;
  }
