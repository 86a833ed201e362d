-- The entries of one file: of two lists that it begins with, one is a first part of the other; and how a file begins.
use Rattle.std.proofs.Common.{◌≡◌, ◌⊎◌, inl, inr, ℕ, suc, ◌^◌, ◌≤◌, ◌<◌, List, [], ◌∷◌, ◌++◌, length, length-append, length-drop, append_assoc, map, take, drop, take-append-drop, Option, Some, All, refl, sym, ap, subst, ◌∙◌, arith}
use Rattle.std.proofs.lemmas.List.{drop_at, take-map, map-append}
use Rattle.std.proofs.Math.Seq.{take-append_seam}
use Rattle.std.specs.List.{flat_map, AllByRecursion}
use Rattle.wire_records.specs.Records.{Record}
use Rattle.wire_records.specs.Commands.{Pair}
use Rattle.wire_records.specs.declared.version.Version.{Version}
use Rattle.flow_orders.specs.Outcomes.{Outcome}
use Rattle.journal_records.specs.Pairs.{IsPair}
use Rattle.journal_records.specs.Formats.{records_of}
use Rattle.market_rules.specs.Market.{Market}
use Rattle.market_history.specs.Histories.{Start, Empty, Kept, CanStart}
use Rattle.disk_edge.specs.Disks.{DiskState}
use Rattle.journal_disk.specs.Pairs.{RecordPair, IsRecordPair, pair_bytes}
use Rattle.journal_disk.specs.Entries.{Head, IsHead, framed, first_entry, disk_magic_of, entry, entries, HasEntries, IsNewDisk}
use Rattle.journal_disk.specs.Recovering.{IsForeign}
use Rattle.journal_disk.specs.Looking.{OnlyLooks}
use Rattle.journal_disk.specs.Stepping.{HasEntryAt, IsClosedAt, IsDamagedAt}
use Rattle.journal_disk.proofs.Entries.{length-framed, entries_join, magic_first, eight}
use Rattle.journal_disk.proofs.Excluding.{prefix_of}
use Rattle.journal_keeping.specs.Starts.{head_of}
use Rattle.journal_keeping.specs.Beginning.{HasFirst}
use Rattle.journal_keeping.specs.Keeping.{IsKeptJournal}
use Rattle.journal_keeping.specs.Openings.{IsOpening, BeginsLegal}
use Rattle.journal_keeping.specs.Openings as opening
use Rattle.journal_keeping.proofs.Beginnings.{begin_alike, bare_place, bare_new, legal_first}
use Rattle.journal_keeping.proofs.Legal.{prefixes_are_legal}
use Rattle.journal_keeping.proofs.Opened.{kept_each, one_kept}
use Rattle.journal_keeping.proofs.Prefixes.{are_prefixes}
use Rattle.desk_opening.specs.Openings.{BeginsAlone, BeginsOtherwise}
use Rattle.desk_keeping.specs.Hosting.{Entries, HasUpTo}

-- ---- first parts

-- a file that is a journal's has at most 2^60 bytes
pub small : (bytes : List ℕ) → (¬ IsForeign bytes) → length bytes ≤ 2 ^ 60
small bytes known = by (le_or_more (length bytes) (2 ^ 60))
  where
    le_or_more : (a b : ℕ) → (a ≤ b) ⊎ (b < a)
    le_or_more a b = grind arith

    by : (length bytes ≤ 2 ^ 60) ⊎ (2 ^ 60 < length bytes) → length bytes ≤ 2 ^ 60
    by (inl few) = few
    by (inr many) = absurd (known (inl many))

-- entries whose records begin with those of others begin with the others
pub first_of : (begin : Start) (p q : Entries) (m n : Market) (more : List RecordPair) → IsKeptJournal begin p m → IsKeptJournal begin q n → map records_of q ≡ map records_of p ++ more → (rest : Entries) × (q ≡ p ++ rest)
first_of begin p q m n more p_is q_is is =
    let count = length (map records_of p) in
    let legal = prefixes_are_legal begin q n count q_is in
    let alike : map records_of p ≡ map records_of (take count q) = sym (take-append_seam (map records_of p) more) ∙ ap (take count) (sym is) ∙ take-map records_of count q in
    let same = one_kept begin p m p_is (take count q) legal.0 legal.1 alike in
    (drop count q, sym (take-append-drop count q) ∙ ap (λ (l : Entries). l ++ drop count q) (sym same.0))

-- one list is a first part of the other
abbrev pub AreFirst : Entries → Entries → Type 0
AreFirst p q = ((more : Entries) × (q ≡ p ++ more)) ⊎ ((more : Entries) × (p ≡ q ++ more))

module _ (held : List ℕ) (begin : Start) where
  -- valid entries that a file begins with
  pub same_file : (p q : Entries) (m n : Market) (place at : ℕ) → BeginsLegal begin held p m place → BeginsLegal begin held q n at → AreFirst p q
  same_file p q m n place at a b =
      elim (are_prefixes (head_of begin) (map records_of p) (map records_of q) a.rest b.rest held (kept_each p a.journal.each) (kept_each q b.journal.each) a.encoded b.encoded) [
        | inl more ↦ inl (first_of begin p q m n more.0 a.journal b.journal more.1)
        | inr more ↦ inr (first_of begin q p n m more.0 b.journal a.journal more.1)
      ]

  -- all entries that a file has begin with those that it begins with
  pub all_of_file : (p old : Entries) (m n : Market) (place : ℕ) → BeginsLegal begin held p m place → IsKeptJournal begin old n → HasEntries (head_of begin) (map records_of old) held → (rest : Entries) × (old ≡ p ++ rest)
  all_of_file p old m n place a journal has =
      let more = prefix_of (head_of begin) (map records_of p) (map records_of old) a.rest held (kept_each p a.journal.each) a.encoded has in
      first_of begin p old m n more.0 a.journal journal more.1

  -- they are valid entries that it begins with, and the commit byte after them isn't set
  pub all_legal : (old : Entries) (n : Market) → IsKeptJournal begin old n → HasEntries (head_of begin) (map records_of old) held → BeginsLegal begin held old n (length (entries (head_of begin) (map records_of old)))
  all_legal old n journal has = record { lawful = has.lawful; journal = journal; rest = has.commit ∷ has.rest; encoded = has.encoded; begins = refl }

  pub all_closed : (old : Entries) (place : ℕ) → HasEntries (head_of begin) (map records_of old) held → place ≡ length (entries (head_of begin) (map records_of old)) → IsClosedAt place held
  all_closed old place has begins = (
    has.commit,
    has.shut,
    has.rest,
    ap (λ (l : List ℕ). drop place l) has.encoded ∙ drop_at (entries (head_of begin) (map records_of old)) (has.commit ∷ has.rest) place (sym begins),
    has.few,
  )

-- ---- places

each_after : (p q : List RecordPair) → AllByRecursion IsRecordPair (p ++ q) → AllByRecursion IsRecordPair q
each_after [] q all = all
each_after (p ∷ ps) q all = each_after ps q all.1

-- an entry after the first ones is at its place
pub entry_at : (head : Head) (first : List RecordPair) (next : RecordPair) (more : List RecordPair) (rest bytes : List ℕ) (place : ℕ) → AllByRecursion IsRecordPair (first ++ next ∷ more) → bytes ≡ entries head (first ++ next ∷ more) ++ rest
    → place ≡ length (entries head first) → length bytes ≤ 2 ^ 60 → (left : List ℕ) × HasEntryAt place next left bytes
entry_at head first next more rest bytes place each is begins few =
    let left = flat_map entry more ++ rest in
    let encoded : drop place bytes ≡ entry next ++ left =
    ap (λ (l : List ℕ). drop place l) (is ∙ ap (λ (l : List ℕ). l ++ rest) (entries_join head first (next ∷ more)) ∙ append_assoc (entries head first) (flat_map entry (next ∷ more)) rest)
    ∙ drop_at (entries head first) (flat_map entry (next ∷ more) ++ rest) place (sym begins)
    ∙ append_assoc (entry next) (flat_map entry more) rest in (
      left,
      record {
        is_pair = (each_after first (next ∷ more) each).0;
        encoded = encoded;
        within = omega (arith, few, ap length encoded, length-drop place bytes, length-append (framed (pair_bytes next)) left, length-framed (pair_bytes next));
      },
    )

-- an entry of a list is one that a journal may have
pub one_of_all : (first : Entries) (pair : Pair Record Outcome) (more : Entries) → All IsPair (first ++ pair ∷ more) → IsPair pair
one_of_all [] pair more all = all 0 pair (omega arith)
one_of_all (first ∷ others) pair more all = one_of_all others pair more (λ k d inside. all (suc k) d (omega (arith, inside)))

-- so does an entry of a file that follows the first ones
pub pair_at : (held : List ℕ) (begin : Start) (p q others : Entries) (m n : Market) (place at : ℕ) (pair : Pair Record Outcome) → (¬ IsForeign held) → BeginsLegal begin held p m place → BeginsLegal begin held q n at → q ≡ p ++ pair ∷ others
    → IsPair pair × ((left : List ℕ) × HasEntryAt place (records_of pair) left held)
pair_at held begin p q others m n place at pair known a b parts =
    let records : map records_of q ≡ map records_of p ++ records_of pair ∷ map records_of others = ap (map records_of) parts ∙ map-append records_of p (pair ∷ others) in (
      one_of_all p pair others (subst (λ (l : Entries). All IsPair l) parts b.journal.each),
      entry_at (head_of begin) (map records_of p) (records_of pair) (map records_of others) b.rest held place (subst (λ (l : List RecordPair). AllByRecursion IsRecordPair l) records (kept_each q b.journal.each))
          (b.encoded ∙ ap (λ (l : List RecordPair). entries (head_of begin) l ++ b.rest) records) a.begins (small held known),
    )

-- ---- how a file begins

-- a file that begins so, and doesn't leave out a first entry that holds a checkpoint
pub record BeginsSo (held : List ℕ) (begin : Start) : Type 0 where
  pub starts : CanStart begin
  pub lawful : IsHead (head_of begin)
  pub rest : List ℕ
  pub encoded : held ≡ entries (head_of begin) [] ++ rest
  pub unfit : length (entries (head_of begin) []) ≡ 8 → (first : Market) → ¬ HasFirst first held

some_bytes : (x y : List ℕ) → ◌≡◌ {A = Option (List ℕ)} (Some x) (Some y) → x ≡ y
some_bytes x y e = cc

-- one that begins otherwise than so
pub otherwise_begins : (held : List ℕ) (begin : Start) (start end : DiskState) → start.content ≡ Some held → OnlyLooks start end → BeginsOtherwise begin held end → (v : Start) × BeginsSo held v × (¬ (v ≡ begin)) × (¬ IsNewDisk held)
otherwise_begins held begin start end told looks (long, known, version, first, place, at, not) = (
  at.begin,
  record {
    starts = at.starts;
    lawful = at.holds.lawful;
    rest = at.rest;
    encoded = some_bytes held (entries (head_of at.begin) [] ++ at.rest) (sym told ∙ sym looks.content ∙ at.holds.content);
    unfit = λ bare. at.unfit (at.holds.begins ∙ bare);
  },
  not,
  long,
)

alone_first : (begin : Start) (version : Version) (held : List ℕ) → begin ≡ Empty version → BeginsAlone begin held → (¬ IsNewDisk held) → (first : Market) → ¬ HasFirst first held
alone_first begin version held is alone = subst (λ (b : Start). BeginsAlone b held) is alone

module _ (held : List ℕ) (v begin : Start) (so : BeginsSo held v) where
  -- it begins as it was read
  pub read_alike : (p : Entries) (m : Market) (place : ℕ) → HasUpTo held begin p m place → v ≡ begin
  read_alike p m place has =
      elim (begin_alike held v begin [] (map records_of p) so.rest has.legal.rest so.starts has.legal.journal.starts so.lawful has.legal.lawful tt (kept_each p has.legal.journal.each) so.encoded has.legal.encoded) [
        | inl same ↦ same
        | inr left ↦
            elim left [
              | inl here ↦ absurd (so.unfit (bare_place v [] here.0) here.1 here.2)
              | inr there ↦ absurd (alone_first begin there.0.0 held there.0.1 has.alone has.is_old there.1 there.2)
            ]
      ]

  -- it begins as the journal that it keeps
  pub kept_alike : (old : Entries) (n : Market) → (¬ IsNewDisk held) → IsKeptJournal begin old n → HasEntries (head_of begin) (map records_of old) held → v ≡ begin
  kept_alike old n long journal has =
      elim (begin_alike held v begin [] (map records_of old) so.rest (has.commit ∷ has.rest) so.starts journal.starts so.lawful has.lawful tt has.each so.encoded has.encoded) [
        | inl same ↦ same
        | inr left ↦
            elim left [
              | inl here ↦ absurd (so.unfit (bare_place v [] here.0) here.1 here.2)
              | inr there ↦ absurd (long (bare_new begin (map records_of old) held there.0 has))
            ]
      ]

-- ---- damage

-- a first entry that holds a checkpoint ends after the eighth byte
past_first : (begin : Start) (p : List RecordPair) (held : List ℕ) (place : ℕ) → place ≡ length (entries (head_of begin) p) → place ≡ 8 → BeginsAlone begin held → (¬ IsNewDisk held) → (first : Market) → ¬ HasFirst first held
past_first (Empty version) p held place begins is alone long first has = alone long first has
past_first (Kept market) p held place begins is alone long first has =
    let head = head_of (Kept market) in
    omega (
      arith,
      begins,
      is,
      length-append (entries head p) [],
      ap length (magic_first head p []),
      eight market.version,
      length-append (disk_magic_of market.version) (first_entry head.first ++ (flat_map entry p ++ [])),
    )

-- a file that is damaged after the entries that were read is opened as damaged there
pub damaged_opens : (held : List ℕ) (begin : Start) (p : Entries) (m : Market) (at place : ℕ) → HasUpTo held begin p m at → at ≡ place → IsDamagedAt place held → IsOpening held (opening.Damaged place)
damaged_opens held begin p m at place has same damage =
    let legal : BeginsLegal begin held p m place = subst (λ (k : ℕ). BeginsLegal begin held p m k) same has.legal in (
      has.is_old,
      has.is_file,
      (begin, p, m, legal, damage, λ bare first after begins. past_first begin (map records_of p) held place legal.begins bare has.alone has.is_old first (legal_first first held after begins)),
    )
