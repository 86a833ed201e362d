-- A file and an input that are opened together: the file was only looked at before the input was read.
use Rattle.std.proofs.Common.{◌≡◌, ◌⊎◌, inl, inr, ℕ, ◌+◌, ◌*◌, ◌≤◌, ◌^◌, List, [], ◌++◌, Option, IfSome, IsSome, Result, Err, length, length-append, ap, subst, arith, ⊎_elim}
use Rattle.flow_io.specs.Faults.{Blames}
use Rattle.flow_io.specs.Streams.{TakesAtMost}
use Rattle.flow_io.specs.Windows.{WindowState}
use Rattle.market_rules.specs.Market.{Market}
use Rattle.market_history.specs.Histories.{Start, Empty, Kept, market_of, CanStart}
use Rattle.disk_edge.specs.Disks.{DiskState, IsDisk}
use Rattle.disk_edge.proofs.Moments.{weaker, then_more, at_the_end}
use Rattle.journal_disk.specs.Entries.{IsNewDisk, Keeps}
use Rattle.journal_disk.specs.Lengths.{HasAtMost}
use Rattle.journal_disk.specs.Looking.{OnlyLooks}
use Rattle.journal_disk.specs.Recovering.{IsForeign}
use Rattle.journal_disk.proofs.GoingOn.{looks_more}
use Rattle.journal_keeping.specs.declared.fault.OpenFault.TheVariants.{Disk, Memory, NotDisk, Damaged, Rejected}
use Rattle.journal_keeping.specs.declared.fault.InputFault.{InputFault}
use Rattle.journal_keeping.specs.declared.fault.InputFault.TheVariants.{Read, Memory as NoMemory, NotFlow, BadCheckpoint}
use Rattle.journal_keeping.specs.Starts.{head_of}
use Rattle.journal_keeping.specs.Openings.{IsOpening}
use Rattle.journal_keeping.specs.Openings as opening
use Rattle.journal_keeping.proofs.Begun.{looks_first, looked_legal}
use Rattle.journal_keeping.proofs.Counts.{blames_alike}
use Rattle.journal_keeping.proofs.Magic.{at_most}
use Rattle.desk_opening.specs.declared.book.Book.{Book}
use Rattle.desk_opening.specs.declared.book.Book.TheVariants as book
use Rattle.desk_opening.specs.declared.opening.StartFault.{StartFault}
use Rattle.desk_opening.specs.declared.opening.StartFault.TheVariants as fault
use Rattle.desk_opening.specs.Beginnings.{bytes_before, IsBeginning, HasBegun, NotBegun}
use Rattle.desk_opening.specs.Books.{IsBookAfter, Continues}
use Rattle.desk_opening.specs.Openings.{GrowsBy, BeginsAlone, IsOpenIfNew, HasOpened, HasNotOpened, BeginsOtherwise, WasMaking, TakesBeginning}
use Rattle.desk_opening.specs.Private.{MakesBook, MakesNoBook}

-- the next order of a market that begins so has a number within the bound
orders_few : (begin : Start) (market : Market) → CanStart begin → market ≡ market_of begin → market.next_order ≤ 2 ^ 63
orders_few (Empty version) market starts is = omega (arith, ap (λ (m : Market). m.next_order) is)
orders_few (Kept of) market starts is = omega (arith, ap (λ (m : Market). m.next_order) is, starts.next)

module _ (start mid now : DiskState) (looks : OnlyLooks start mid) (is_disk : IsDisk mid) where
  -- what is known of the bytes was known of them at the start
  before : (P : List ℕ → Type 0) → IfSome mid.content P → IfSome start.content P
  before P has = subst (λ (o : Option (List ℕ)). IfSome o P) looks.content has

  grows_first : (size : ℕ) → GrowsBy size mid now → GrowsBy size start now
  grows_first size grows = λ least nine short.
      let there = weaker start mid start.images (HasAtMost least) short looks.moments in
      then_more start mid now (HasAtMost (least + size)) (weaker start mid (HasAtMost least) (HasAtMost (least + size)) (λ image le. omega (arith, le)) there)
      (grows least nine (at_the_end start mid (HasAtMost least) is_disk there))

  book_first : (begin : Start) (market : Market) (file : Book) → IsBookAfter begin file mid now [] market → IsBookAfter begin file start now [] market
  book_first begin market (book.Kept place ahead) after = record {
    journal = after.journal;
    looks = looks_more start mid now looks after.looks;
    known = before (λ held. (¬ IsNewDisk held) × (¬ IsForeign held)) after.known;
    piece = after.piece;
    holds = after.holds;
  }
  book_first begin market (book.Open place) after = record {
    journal = after.journal;
    continues = before (λ held. Continues held begin [] market) after.continues;
    keeps = before (λ _. Keeps (head_of begin) [] place now) after.keeps;
    moments = λ was old m holds. looks_first begin old start mid now looks (after.moments was old m (looked_legal was old m start mid holds looks));
    told = λ some. subst (λ (o : Option (List ℕ)). IsSome o) looks.content (after.told some);
    near = after.near;
  }

  new_first : (file : Book) → IsOpenIfNew file mid.content → IsOpenIfNew file start.content
  new_first (book.Kept place ahead) is = tt
  new_first (book.Open place) is = before (λ held. IsOpening held opening.New) is

  making_first : (begin : Start) → WasMaking begin mid now → WasMaking begin start now
  making_first begin was_making = record {
    is_new = before (λ held. IsOpening held opening.New) was_making.is_new;
    moments = λ was old m holds. looks_first begin old start mid now looks (was_making.moments was old m (looked_legal was old m start mid holds looks));
    lengths = grows_first (2 * length (bytes_before begin)) was_making.lengths;
  }

  module _ (most limit : ℕ) (market : Market) (stored : List ℕ) (window : WindowState) (x y : Option (List ℕ)) (begun : HasBegun most limit market stored window x y) where
    -- both begin so
    pub both_begun : (file : Book) → ((begin : Start) → IsBeginning begin market stored → MakesBook begin market file mid now) → HasOpened most limit start now market file window x y
    both_begun file makes =
        let made = makes begun.begin begun.is_one in
        record {
          begin = begun.begin;
          starts = begun.is_one.starts;
          market_is = begun.is_one.market_is;
          takes = begun.takes;
          place = begun.place;
          limited = begun.limited;
          is_open = begun.is_open;
          file = book_first begun.begin market file made.after;
          alone = before (BeginsAlone begun.begin) made.alone;
          only_new = new_first file made.only_new;
          orders = orders_few begun.begin market begun.is_one.starts begun.is_one.market_is;
          near = made.near;
          lengths = grows_first (2 * length (bytes_before begun.begin)) made.lengths;
          told = λ some. subst (λ (o : Option (List ℕ)). IsSome o) looks.content (made.told some);
        }

    pub takes_so : TakesBeginning limit begun.begin x y
    takes_so = (begun.is_one.starts, window.held, begun.takes, omega (arith, begun.place, begun.limited, begun.is_open.within, length-append (bytes_before begun.begin) window.held))

    -- they don't, or a call of the disk failed
    pub not_both : (why : StartFault) → ((begin : Start) → IsBeginning begin market stored → MakesNoBook begin mid now why) → HasNotOpened limit start now x y why
    not_both why none = by_cases why (none begun.begin begun.is_one)
      where
        by_cases : (f : StartFault) → MakesNoBook begun.begin mid now f → HasNotOpened limit start now x y f
        by_cases (fault.Open Disk) on = (tt, looks_more start mid now looks on)
        by_cases (fault.Open Memory) on = (tt, looks_more start mid now looks on)
        by_cases (fault.Open NotDisk) never = absurd never
        by_cases (fault.Open (Damaged place)) never = absurd never
        by_cases (fault.Open (Rejected number)) never = absurd never
        by_cases (fault.Input input) never = absurd never
        by_cases fault.Differs on = (looks_more start mid now looks on.0, begun.begin, takes_so, before (λ held. BeginsOtherwise begun.begin held now) on.1)
        by_cases fault.Make was_making = (begun.begin, takes_so, making_first begun.begin was_making)

-- ---- how much was taken

-- at most one byte past the limit, where no beginning was found
pub unbegun_few : (limit : ℕ) (before after : Option (List ℕ)) (why : InputFault) → NotBegun limit before after why → TakesAtMost before after (limit + 1)
unbegun_few limit before after Read (taken, takes, few, lacks) = at_most before after taken (limit + 1) takes (omega (arith, few))
unbegun_few limit before after NoMemory (taken, takes, few, magic) = at_most before after taken (limit + 1) takes (omega (arith, few))
unbegun_few limit before after NotFlow (taken, takes, few, neither) = at_most before after taken (limit + 1) takes few
unbegun_few limit before after BadCheckpoint (taken, takes, few, unsound) = at_most before after taken (limit + 1) takes few

-- and where one was
pub begun_few : (most limit : ℕ) (market : Market) (stored : List ℕ) (window : WindowState) (before after : Option (List ℕ)) → HasBegun most limit market stored window before after → TakesAtMost before after (limit + 1)
begun_few most limit market stored window before after begun =
    at_most before after (bytes_before begun.begin ++ window.held) (limit + 1) begun.takes
    (omega (arith, begun.place, begun.limited, begun.is_open.within, length-append (bytes_before begun.begin) window.held))

-- ---- whose fault it is

same_fault : {T : Type 0} (a b : StartFault) → ◌≡◌ {A = Result T StartFault} (Err a) (Err b) → a ≡ b
same_fault a b e = cc

-- the same result of another type
moved : {T U : Type 0} (a b : StartFault) → ◌≡◌ {A = Result T StartFault} (Err a) (Err b) → ◌≡◌ {A = Result U StartFault} (Err a) (Err b)
moved a b e = ap Err (same_fault a b e)

-- a failed call of the disk is one whatever the result's type
pub same_blame : {T U : Type 0} (why : StartFault) (a b : ℕ) → Blames ((◌≡◌ {A = Result T StartFault} (Err why) (Err (fault.Open Disk))) ⊎ (◌≡◌ {A = Result T StartFault} (Err why) (Err fault.Make))) a b
    → Blames ((◌≡◌ {A = Result U StartFault} (Err why) (Err (fault.Open Disk))) ⊎ (◌≡◌ {A = Result U StartFault} (Err why) (Err fault.Make))) a b
same_blame why a b blames =
    blames_alike _ _ a b
    (λ s. ⊎_elim (λ e. inl (moved why (fault.Open Disk) e)) (λ e. inr (moved why fault.Make e)) s)
    (λ s. ⊎_elim (λ e. inl (moved why (fault.Open Disk) e)) (λ e. inr (moved why fault.Make e)) s)
    blames

-- a file that is refused by its own bytes is so before the input is read
pub read_none : {T : Type 0} (begin : Start) (mid now : DiskState) (why : StartFault) (P : Type 0) → MakesNoBook begin mid now why
    → (◌≡◌ {A = Result T StartFault} (Err why) (Err (fault.Open NotDisk))) ⊎ ((place : ℕ) × ◌≡◌ {A = Result T StartFault} (Err why) (Err (fault.Open (Damaged place)))) → P
read_none begin mid now why P none (inl is) = absurd (subst (MakesNoBook begin mid now) (same_fault why (fault.Open NotDisk) is) none)
read_none begin mid now why P none (inr (place, is)) = absurd (subst (MakesNoBook begin mid now) (same_fault why (fault.Open (Damaged place)) is) none)

-- and no read failed once the beginning of the input was taken
pub read_well : {T : Type 0} (begin : Start) (mid now : DiskState) (why : StartFault) → MakesNoBook begin mid now why → ¬ ◌≡◌ {A = Result T StartFault} (Err why) (Err (fault.Input Read))
read_well begin mid now why none is = subst (MakesNoBook begin mid now) (same_fault why (fault.Input Read) is) none
