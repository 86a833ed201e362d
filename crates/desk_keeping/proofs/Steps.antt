-- How the invariant of all lines begins, what it says of a file, and which entries a file at the start had.
use Rattle.std.proofs.Common.{◌≡◌, ◌≢◌, ◌⊎◌, inl, inr, ℕ, ◌+◌, ◌^◌, ◌<◌, ◌≤◌, List, [], ◌++◌, Option, Some, None, IfSome, IsSome, length, map, refl, sym, ap, subst, ◌∙◌, arith}
use Rattle.std.specs.Prelude.{All}
use Rattle.std.proofs.lemmas.List.{append-nil}
use Rattle.std.proofs.lemmas.List.Elements.{All-nil}
use Rattle.wire_records.specs.Versions.{IsReadAs}
use Rattle.canonical_rule.specs.Canonical.{IsCanonicalOutcome}
use Rattle.flow_accounts.specs.Balances.{account_count}
use Rattle.flow_io.specs.Windows.{WindowState}
use Rattle.journal_records.specs.Pairs.{IsPair}
use Rattle.journal_records.specs.Formats.{records_of}
use Rattle.market_rules.specs.Market.{Market}
use Rattle.market_rules.specs.Journal.{Follows}
use Rattle.market_history.specs.Histories.{Start, market_of}
use Rattle.line_records.specs.Lines.{HasNoFeed}
use Rattle.disk_edge.specs.Disks.{DiskState, AtEachMoment}
use Rattle.journal_disk.specs.Pairs.{RecordPair}
use Rattle.journal_disk.specs.Entries.{Head, IsNewDisk, most_unkept, Keeps}
use Rattle.journal_keeping.specs.Starts.{head_of}
use Rattle.journal_keeping.specs.Keeping.{IsKeptJournal, HoldsLegal, DuringCall}
use Rattle.journal_keeping.specs.Beginning.{WhileOpening}
use Rattle.journal_keeping.specs.Openings.{IsOpening}
use Rattle.journal_keeping.specs.Openings as opening
use Rattle.journal_keeping.specs.Outputs.{Output}
use Rattle.journal_keeping.proofs.Begun.{new_again, opened_old}
use Rattle.journal_keeping.proofs.Serving.{kept_none}
use Rattle.journal_keeping.proofs.Gaining.{gains_none}
use Rattle.desk_messages.specs.Desks.{no_desks}
use Rattle.desk_lines.specs.Hearing.{most_envelope}
use Rattle.desk_session.specs.States.{CountsAccounts}
use Rattle.desk_session.proofs.Bounds.{begins_within}
use Rattle.desk_opening.specs.Books.{CanFind, CanKeep, GetsMore, Continues, IsBookAfter}
use Rattle.desk_opening.specs.Openings.{HasOpened, IsOpenIfNew, place_of}
use Rattle.desk_opening.specs.Beginnings.{bytes_before}
use Rattle.desk_opening.specs.declared.book.Book.{Book}
use Rattle.desk_opening.specs.declared.book.Book.TheVariants.{Kept, Open}
use Rattle.desk_opening.proofs.Along.{along_finds}
use Rattle.desk_keeping.specs.Hosting.{Entries, desks_of}
use Rattle.desk_keeping.specs.Private.{HostState, stored, IsOrdered, Appends, IsFileAt, IsWholeAt, IsAt, IsWithinLines, HasGone}
use Rattle.desk_keeping.proofs.Whole.{whole_gets}

-- ---- a file at the start

-- a file that held a valid journal is continued with its entries; how it begins, and in which market
pub old_is : (begin was : Start) (start : DiskState) (old legal : Entries) (opened m : Market) → IfSome start.content (λ held. Continues held begin old opened) → HoldsLegal start was legal m
    → (legal ≡ old) × (((begin ≡ was) × (opened ≡ m)) ⊎ (IfSome start.content IsNewDisk × (opened ≡ market_of begin)))
old_is begin was start old legal opened m continues holds = goes_as (subst (λ (o : Option (List ℕ)). IfSome o (λ (held : List ℕ). Continues held begin old opened)) holds.told continues)
  where
    goes_as : Continues holds.bytes begin old opened → (legal ≡ old) × (((begin ≡ was) × (opened ≡ m)) ⊎ (IfSome start.content IsNewDisk × (opened ≡ market_of begin)))
    goes_as (inl is) =
        let same = opened_old start was legal m holds holds.bytes holds.told begin old opened is in
        (same.1, inl (sym same.0, sym same.2))
    goes_as (inr (is, none, first)) = (
      new_again start was legal m holds holds.bytes holds.told is.0 ∙ sym none,
      inr (subst (λ (o : Option (List ℕ)). IfSome o IsNewDisk) (sym holds.told) is.0, first),
    )

-- ---- what is known of a file

-- what is known of a file that was told, also later
known_later : (content now : Option (List ℕ)) (P Q : Type 0) → (IsSome now → IsSome content) → (P → Q) → IfSome content (λ _. P) → IfSome now (λ _. Q)
known_later content None P Q told f p = tt
known_later None (Some bytes) P Q told f p = absurd (let none = told refl in cc)
known_later (Some held) (Some bytes) P Q told f p = f p

module _ (begin : Start) (start now : DiskState) where
  -- the file can be asked for its next entry
  file_finds : (b : Book) (safe waiting : Entries) (market : Market) → IsFileAt begin start b now safe waiting market → CanFind b now
  file_finds (Kept place ahead) safe waiting market file = along_finds begin start now safe market place ahead file.1
  file_finds (Open place) safe waiting market file = tt

  -- the entries that wait can be kept
  file_keeps : (b : Book) (group : List ℕ) (safe waiting : Entries) (market : Market) → IsFileAt begin start b now safe waiting market → group ≡ stored waiting → group ≢ [] → length group ≤ most_unkept → place_of b ≤ 2 ^ 61
      → CanKeep group b now
  file_keeps (Kept place ahead) group safe waiting market file is some few near = absurd (some (is ∙ ap stored file.0))
  file_keeps (Open place) group safe waiting market file is some few near = (
    few,
    near,
    known_later start.content now.content (Keeps (head_of begin) (map records_of (file.old ++ file.kept)) place now) ((head : Head) × (pairs : List RecordPair) × Keeps head pairs place now) file.told
        (λ keeps. (head_of begin, map records_of (file.old ++ file.kept), keeps)) file.keeps,
  )

  module _ (first out : Output) (read : List (List ℕ)) (h : HostState) (is : IsAt begin start first read h now out) where
    -- between lines the texts are in order
    pub ordered : IsOrdered h
    ordered = (is.order, omega (arith, is.all_told))

    -- the next entry can be looked for
    pub can_find : CanFind h.book now
    can_find = file_finds h.book is.safe is.waiting h.session.market is.file

    -- what waits can be kept
    pub can_keep : (lines : ℕ) → IsWithinLines lines h → lines ≤ 2 ^ 40 → h.group ≢ [] → CanKeep h.group h.book now
    can_keep lines within few some = file_keeps h.book h.group is.safe is.waiting h.session.market is.file is.group some (omega (arith, within.short)) (omega (arith, within.place, few))

-- ---- before the first line

-- a file that gets more, after entries that are made, of which none is kept yet
pub appends_first : (begin : Start) (place : ℕ) (start now : DiskState) (old made : Entries) (market after : Market) → GetsMore begin place start now old market
    → (0 < length made) ⊎ IfSome start.content (λ held. IsOpening held opening.New) → Follows IsReadAs IsCanonicalOutcome market made after → All IsPair made → Appends begin start place now old made after
appends_first begin place start now old made market after gets more steps fits = record {
  old = old;
  opened = market;
  kept = [];
  between = market;
  parts = sym (append-nil old);
  continues = gets.continues;
  goes_on = record { steps = refl; journal = subst (λ (l : Entries). IsKeptJournal begin l market) (sym (append-nil old)) gets.journal };
  keeps = subst (λ (l : Entries). IfSome start.content (λ _. Keeps (head_of begin) (map records_of l) place now)) (sym (append-nil old)) gets.keeps;
  during = opens;
  told = gets.told;
  more = waits more;
  steps = steps;
  fits = fits;
}
  where
    waits : (0 < length made) ⊎ IfSome start.content (λ held. IsOpening held opening.New) → (0 < 0 + length made) ⊎ IfSome start.content (λ held. IsOpening held opening.New)
    waits (inl some) = inl (omega (arith, some))
    waits (inr new) = inr new

    opens : (was : Start) (legal : Entries) (m : Market) → HoldsLegal start was legal m → DuringCall begin start now old []
    opens was legal m holds =
        let same = old_is begin was start old legal market m gets.continues holds in
        let keeps = subst (λ (o : Option (List ℕ)). IfSome o (λ _. Keeps (head_of begin) (map records_of old) place now)) holds.told gets.keeps in
        (kept_none begin start now old market place gets.journal keeps
        (subst (λ (l : Entries). AtEachMoment start now (WhileOpening begin start l)) same.0 (gets.moments was legal m holds))).during

-- a host before the first line
abbrev pub first_host : Market → Book → HostState
first_host market b = record {
  session = record { market = market; talk = record { desks = no_desks (account_count market.balances); texts = [] }; entries = 0; entry = [] };
  book = b;
  group = [];
  fresh = [];
  told = 0;
  written = 0;
}

-- a file that was opened
file_first : (begin : Start) (start mid : DiskState) (b : Book) (market : Market) → IsBookAfter begin b start mid [] market → IsOpenIfNew b start.content → IsFileAt begin start b mid [] [] market
file_first begin start mid (Kept place ahead) market after new = (refl, after)
file_first begin start mid (Open place) market after new = appends_first begin place start mid [] [] market market after (inr new) refl (All-nil IsPair)

whole_first : (begin : Start) (start mid : DiskState) (b : Book) (market : Market) → IsBookAfter begin b start mid [] market → IsWholeAt begin start [] b mid []
whole_first begin start mid (Kept place ahead) market after = tt
whole_first begin start mid (Open place) market after = whole_gets begin start [] place mid [] market after

module _ (limit : ℕ) (start mid : DiskState) (market : Market) (b : Book) (window : WindowState) (content rest : Option (List ℕ)) (opened : HasOpened most_envelope limit start mid market b window content rest) where
  -- nothing was heard yet
  pub at_begin : (out : Output) → CountsAccounts (first_host market b).session → IsAt opened.begin start out [] (first_host market b) mid out
  at_begin out counted = record {
    pairs = [];
    texts = [];
    hosted = (refl, refl, opened.market_is, ap (λ (m : Market). no_desks (account_count m.balances)) opened.market_is);
    entries = refl;
    counts = counted;
    none = refl;
    safe = [];
    waiting = [];
    parts = refl;
    group = refl;
    file = file_first opened.begin start mid b market opened.file opened.only_new;
    whole = whole_first opened.begin start mid b market opened.file;
    all_told = refl;
    order = omega arith;
    gone = [];
    said = refl;
    gained = gains_none ⊥ out;
    told = ([], [], refl, [], [], refl, market_of opened.begin, desks_of opened.begin, (refl, refl, refl, refl), λ was legal m holds. inl (omega arith));
  }

  -- only the beginning was taken
  pub gone_begin : HasGone opened.begin limit window content rest []
  gone_begin = record {
    starts = opened.starts;
    taken = bytes_before opened.begin ++ window.held;
    takes = opened.takes;
    pieces = All-nil HasNoFeed;
    whole = refl;
    place = omega (arith, opened.place);
    limited = opened.limited;
    is_open = opened.is_open;
  }

  -- all counts begin
  pub within_begin : IsWithinLines 0 (first_host market b)
  within_begin = record {
    within = begins_within market opened.orders;
    place = omega (arith, opened.near);
    short = omega arith;
  }
