-- A disk's bytes are opened in at most one way.
use Rattle.std.proofs.Common.{◌≡◌, ◌⊎◌, ⊎_elim, inl, inr, ℕ, ◌+◌, ◌≤◌, ◌<◌, ◌^◌, List, [], ◌∷◌, ◌++◌, length, map, refl, sym, ap, subst, ◌∙◌, arith, append_assoc}
use Rattle.std.proofs.lemmas.List.{append-nil}
use Rattle.std.specs.List.{AllByRecursion}
use Rattle.wire_records.specs.Records.{Record}
use Rattle.wire_records.specs.Commands.{Pair}
use Rattle.flow_orders.specs.Outcomes.{Outcome}
use Rattle.journal_records.specs.Formats.{records_of}
use Rattle.market_rules.specs.Market.{Market}
use Rattle.market_history.specs.Histories.{Start}
use Rattle.batch_audit.specs.Legal.{IsIllegalPair}
use Rattle.journal_disk.specs.Pairs.{RecordPair, IsRecordPair}
use Rattle.journal_disk.specs.Entries.{entries}
use Rattle.journal_disk.specs.Recovering.{IsForeign}
use Rattle.journal_disk.specs.Stepping.{HasEntryAt, IsDamagedAt}
use Rattle.journal_disk.proofs.Entries.{each_more}
use Rattle.journal_disk.proofs.Excluding.{one_after}
use Rattle.journal_keeping.specs.Starts.{head_of}
use Rattle.journal_keeping.specs.Beginning.{HasFirst}
use Rattle.journal_keeping.specs.Keeping.{IsKeptJournal}
use Rattle.journal_keeping.specs.Openings.{Opening, Foreign, New, Damaged, Rejected, Legal, BeginsLegal, IsDamaged, IsOpening}
use Rattle.journal_keeping.specs.Laws.{OneOpening}
use Rattle.journal_keeping.proofs.Judging.{one_judgement}
use Rattle.journal_keeping.proofs.Beginnings.{first_legal, begin_alike, first_no_entry, bare_place}
use Rattle.journal_keeping.proofs.Opened.{kept_each, not_rejected, same_begins, legal_is_opened}
use Rattle.journal_keeping.proofs.Prefixes.{are_prefixes, ends_at_damage}

small_known : (bytes : List ℕ) → (¬ IsForeign bytes) → length bytes ≤ 2 ^ 60
small_known bytes known = ⊎_elim (λ (small : length bytes ≤ 2 ^ 60). small) (λ (large : 2 ^ 60 < length bytes). absurd (known (inl large))) (le_or_more (length bytes) (2 ^ 60))
  where
    le_or_more : (a b : ℕ) → (a ≤ b) ⊎ (b < a)
    le_or_more a b = grind arith

-- the bytes are a valid journal, an invalid entry, and a rest
record HasIllegal (begin : Start) (bytes : List ℕ) (legal : List (Pair Record Outcome)) (market : Market) (bad : RecordPair) (rest : List ℕ) : Type 0 where
  journal : IsKeptJournal begin legal market
  each : AllByRecursion IsRecordPair (map records_of legal ++ bad ∷ [])
  encoded : bytes ≡ entries (head_of begin) (map records_of legal ++ bad ∷ []) ++ rest
  illegal : IsIllegalPair market bad

has_illegal : (begin : Start) (bytes : List ℕ) (legal : List (Pair Record Outcome)) (market : Market) (place : ℕ) (bad : RecordPair) (rest : List ℕ) → BeginsLegal begin bytes legal market place → HasEntryAt place bad rest bytes → IsIllegalPair market bad → HasIllegal begin bytes legal market bad rest
has_illegal begin bytes legal market place bad rest begins has illegal = record {
  journal = begins.journal;
  each = each_more IsRecordPair (map records_of legal) bad (kept_each legal begins.journal.each) has.is_pair;
  encoded = one_after (head_of begin) (map records_of legal) bad begins.rest rest bytes place begins.encoded begins.begins has.encoded;
  illegal = illegal;
}

-- damage ends the entries
module _ (begin : Start) (bytes : List ℕ) (small : length bytes ≤ 2 ^ 60) where
  nothing_after : (first all more : List RecordPair) (rest : List ℕ) (place : ℕ) → AllByRecursion IsRecordPair all → bytes ≡ entries (head_of begin) all ++ rest → place ≡ length (entries (head_of begin) first) → IsDamagedAt place bytes → all ≡ first ++ more → all ≡ first
  nothing_after first all [] rest place each is begins damage same = same ∙ append-nil first
  nothing_after first all (next ∷ more) rest place each is begins damage same =
      absurd (ends_at_damage (head_of begin) first next more rest bytes place (subst (AllByRecursion IsRecordPair) same each) (is ∙ ap (λ (l : List RecordPair). entries (head_of begin) l ++ rest) same) begins small damage)

  same_damage : (p q : List RecordPair) (x y : List ℕ) (m n : ℕ) → AllByRecursion IsRecordPair p → AllByRecursion IsRecordPair q → bytes ≡ entries (head_of begin) p ++ x → bytes ≡ entries (head_of begin) q ++ y
      → m ≡ length (entries (head_of begin) p) → n ≡ length (entries (head_of begin) q) → IsDamagedAt m bytes → IsDamagedAt n bytes → m ≡ n
  same_damage p q x y m n a b is also starts begins here there =
      let same : p ≡ q = ⊎_elim
      (λ more. sym (nothing_after p q more.0 y m b also starts here more.1))
      (λ more. nothing_after q p more.0 x n a is begins there more.1)
      (are_prefixes (head_of begin) p q x y bytes a b is also) in
      starts ∙ ap (λ (l : List RecordPair). length (entries (head_of begin) l)) same ∙ sym begins

  -- if there is damage after valid entries, none of those entries is invalid
  no_illegal : (first : List (Pair Record Outcome)) (m : Market) (place : ℕ) (legal : List (Pair Record Outcome)) (n : Market) (bad : RecordPair) (rest : List ℕ)
      → BeginsLegal begin bytes first m place → IsDamagedAt place bytes → HasIllegal begin bytes legal n bad rest → ⊥
  no_illegal first m place legal n bad rest begins damage has =
      let p = map records_of first in
      let l = map records_of legal in
      let q = l ++ bad ∷ [] in
      ⊎_elim
      (λ more. not_rejected begin first m begins.journal legal n bad [] has.journal (sym (nothing_after p q more.0 rest place has.each has.encoded begins.begins damage more.1)) has.illegal)
      (λ more. not_rejected begin first m begins.journal legal n bad more.0 has.journal (more.1 ∙ append_assoc l (bad ∷ []) more.0) has.illegal)
      (are_prefixes (head_of begin) p q begins.rest rest bytes (kept_each first begins.journal.each) has.each begins.encoded has.encoded)

-- there is one first invalid entry
one_illegal : (begin : Start) (bytes : List ℕ) (a : List (Pair Record Outcome)) (m : Market) (x : RecordPair) (rest : List ℕ) (b : List (Pair Record Outcome)) (n : Market) (y : RecordPair) (left : List ℕ) → HasIllegal begin bytes a m x rest → HasIllegal begin bytes b n y left → a ≡ b
one_illegal begin bytes a m x rest b n y left one other =
    let p = map records_of a in
    let q = map records_of b in
    ⊎_elim
    (λ more. sym ((one_judgement begin b a (y ∷ []) (x ∷ more.0) n m (more.1 ∙ append_assoc p (x ∷ []) more.0) other.journal one.journal other.illegal one.illegal).0))
    (λ more. (one_judgement begin a b (x ∷ []) (y ∷ more.0) m n (more.1 ∙ append_assoc q (y ∷ []) more.0) one.journal other.journal one.illegal other.illegal).0)
    (are_prefixes (head_of begin) (p ++ x ∷ []) (q ++ y ∷ []) rest left bytes one.each other.each one.encoded other.encoded)

module _ (bytes : List ℕ) where
  -- two readings of the bytes begin in one way, or one has left out a first entry that holds a checkpoint
  both_begin : (v w : Start) (legal other : List (Pair Record Outcome)) (m n : Market) (place at : ℕ) → BeginsLegal v bytes legal m place → BeginsLegal w bytes other n at
      → (BeginsLegal v bytes other n at) ⊎ (((place ≡ 8) × (k : Market) × HasFirst k bytes) ⊎ ((at ≡ 8) × (k : Market) × HasFirst k bytes))
  both_begin v w legal other m n place at a b =
      elim (begin_alike bytes v w (map records_of legal) (map records_of other) a.rest b.rest a.journal.starts b.journal.starts a.lawful b.lawful (kept_each legal a.journal.each) (kept_each other b.journal.each) a.encoded b.encoded) [
        | inl same ↦ inl (same_begins w v bytes other n at (sym same) b)
        | inr left ↦
            elim left [
              | inl here ↦ inr (inl (a.begins ∙ bare_place v (map records_of legal) here.0, here.1, here.2))
              | inr there ↦ inr (inr (b.begins ∙ bare_place w (map records_of other) there.0, there.1, there.2))
            ]
      ]

  by_legal : (w : Start) (q : List (Pair Record Outcome)) (n : Market) (a : Opening) → IsOpening bytes a → IsOpening bytes (Legal w q n) → a ≡ Legal w q n
  by_legal w q n a x y = ⊎_elim
      (λ new. absurd (not_new a new x))
      (λ is. is)
      (legal_is_opened w q n bytes a y.2 (inr y.3) (small_known bytes y.1) x)
    where
      not_new : (a : Opening) → a ≡ New → IsOpening bytes a → ⊥
      not_new a is x = y.0 (subst (IsOpening bytes) is x).0

  one_damage : (m n : ℕ) → (¬ IsForeign bytes) → IsDamaged m bytes → IsDamaged n bytes → m ≡ n
  one_damage m n known x y =
      elim (both_begin x.0 y.0 x.1 y.1 x.2 y.2 m n x.3 y.3) [
        | inl b ↦
            same_damage x.0 bytes (small_known bytes known) (map records_of x.1) (map records_of y.1) x.3.rest b.rest m n (kept_each x.1 x.3.journal.each) (kept_each y.1 b.journal.each)
            x.3.encoded b.encoded x.3.begins b.begins x.4 y.4
        | inr left ↦ elim left [ inl here ↦ absurd (x.5 here.0 here.1 _ (first_legal here.1 bytes here.2)) | inr there ↦ absurd (y.5 there.0 there.1 _ (first_legal there.1 bytes there.2)) ]
      ]

  no_damage : (m : ℕ) → (¬ IsForeign bytes) → IsDamaged m bytes → (w : Start) (legal : List (Pair Record Outcome)) (n : Market) (place : ℕ) → BeginsLegal w bytes legal n place
      → (bad : RecordPair) (rest : List ℕ) → HasEntryAt place bad rest bytes → IsIllegalPair n bad → ⊥
  no_damage m known x w legal n place begins bad rest has illegal =
      elim (both_begin x.0 w x.1 legal x.2 n m place x.3 begins) [
        | inl b ↦ no_illegal x.0 bytes (small_known bytes known) x.1 x.2 m legal n bad rest x.3 x.4 (has_illegal x.0 bytes legal n place bad rest b has illegal)
        | inr left ↦
            elim left [
              | inl here ↦ x.5 here.0 here.1 _ (first_legal here.1 bytes here.2)
              | inr there ↦ first_no_entry bytes there.1 there.2 bad rest (subst (λ (k : ℕ). HasEntryAt k bad rest bytes) there.0 has)
            ]
      ]

  pub one_of : (a b : Opening) → IsOpening bytes a → IsOpening bytes b → a ≡ b
  one_of Foreign Foreign x y = refl
  one_of Foreign New x y = absurd (y.1 x)
  one_of Foreign (Damaged n) x y = absurd (y.1 x)
  one_of Foreign (Rejected n) x y = absurd (y.1 x)
  one_of Foreign (Legal w q n) x y = absurd (y.1 x)
  one_of New Foreign x y = absurd (x.1 y)
  one_of New New x y = refl
  one_of New (Damaged n) x y = absurd (y.0 x.0)
  one_of New (Rejected n) x y = absurd (y.0 x.0)
  one_of New (Legal w q n) x y = absurd (y.0 x.0)
  one_of (Damaged m) Foreign x y = absurd (x.1 y)
  one_of (Damaged m) New x y = absurd (x.0 y.0)
  one_of (Damaged m) (Damaged n) x y = ap Damaged (one_damage m n x.1 x.2 y.2)
  one_of (Damaged m) (Rejected n) x y = absurd (no_damage m x.1 x.2 y.2 y.3 y.4 y.5 y.6 y.7 y.8 y.9 y.10)
  one_of (Damaged m) (Legal w q n) x y = by_legal w q n (Damaged m) x y
  one_of (Rejected m) Foreign x y = absurd (x.1 y)
  one_of (Rejected m) New x y = absurd (x.0 y.0)
  one_of (Rejected m) (Damaged n) x y = absurd (no_damage n y.1 y.2 x.2 x.3 x.4 x.5 x.6 x.7 x.8 x.9 x.10)
  one_of (Rejected m) (Rejected n) x y =
      elim (both_begin x.2 y.2 x.3 y.3 x.4 y.4 x.5 y.5 x.6 y.6) [
        | inl b ↦
            let same = one_illegal x.2 bytes x.3 x.4 x.7 x.8 y.3 y.4 y.7 y.8 (has_illegal x.2 bytes x.3 x.4 x.5 x.7 x.8 x.6 x.9 x.10) (has_illegal x.2 bytes y.3 y.4 y.5 y.7 y.8 b y.9 y.10) in
            ap Rejected (x.11 ∙ ap (λ (l : List (Pair Record Outcome)). length l + 1) same ∙ sym y.11)
        | inr left ↦
            elim left [
              | inl here ↦ absurd (first_no_entry bytes here.1 here.2 x.7 x.8 (subst (λ (k : ℕ). HasEntryAt k x.7 x.8 bytes) here.0 x.9))
              | inr there ↦ absurd (first_no_entry bytes there.1 there.2 y.7 y.8 (subst (λ (k : ℕ). HasEntryAt k y.7 y.8 bytes) there.0 y.9))
            ]
      ]
  one_of (Rejected m) (Legal w q n) x y = by_legal w q n (Rejected m) x y
  one_of (Legal v p m) b x y = sym (by_legal v p m b y x)

pub one_opening : OneOpening
one_opening bytes a b x y = one_of bytes a b x y
