-- Bytes that keep a valid journal are opened as that, and as nothing else.
use Rattle.std.proofs.Common.{◌≡◌, ◌⊎◌, ◌≤◌, ◌^◌, inl, inr, ℕ, List, [], ◌∷◌, ◌++◌, length, map, All, refl, sym, ap, subst, ◌∙◌, arith, append_assoc}
use Rattle.std.proofs.lemmas.List.{append-nil}
use Rattle.std.proofs.lemmas.List.Elements.{recursion_from_All, All-map}
use Rattle.std.specs.List.{AllByRecursion}
use Rattle.wire_records.specs.Records.{Record}
use Rattle.wire_records.specs.Commands.{Pair}
use Rattle.flow_orders.specs.Outcomes.{Outcome}
use Rattle.journal_records.specs.Pairs.{IsPair}
use Rattle.journal_records.specs.Formats.{records_of}
use Rattle.market_rules.specs.Market.{Market}
use Rattle.market_history.specs.Histories.{Start}
use Rattle.batch_audit.specs.Legal.{IsIllegalPair}
use Rattle.journal_disk.specs.Pairs.{RecordPair, IsRecordPair}
use Rattle.journal_disk.specs.Entries.{Head, HasEntries, IsNewDisk, StandsFor}
use Rattle.journal_disk.specs.Stepping.{HasEntryAt}
use Rattle.journal_disk.proofs.Entries.{each_more}
use Rattle.journal_disk.proofs.OneList.{same_disk}
use Rattle.journal_disk.proofs.OpenedEntries.{not_foreign}
use Rattle.journal_disk.proofs.Excluding.{prefix_of, one_after, undamaged}
use Rattle.journal_keeping.specs.Starts.{head_of}
use Rattle.journal_keeping.specs.Beginning.{HasFirst}
use Rattle.journal_keeping.specs.Keeping.{IsKeptJournal, StandsForJournal}
use Rattle.journal_keeping.specs.Openings.{Opening, Foreign, New, Damaged, Rejected, Legal, BeginsLegal, IsDamaged, IsOpening}
use Rattle.journal_keeping.specs.Laws.{LegalIsOpened}
use Rattle.journal_keeping.proofs.Judging.{one_judgement}
use Rattle.journal_keeping.proofs.Starts.{one_begin}
use Rattle.journal_keeping.proofs.Beginnings.{IsBare, first_legal, begin_alike, first_no_entry, bare_place, bare_new}

-- the two records of an entry of a journal are an entry that may be kept
pub kept_each : (pairs : List (Pair Record Outcome)) → All IsPair pairs → AllByRecursion IsRecordPair (map records_of pairs)
kept_each pairs all = recursion_from_All IsRecordPair (map records_of pairs) (All-map IsRecordPair records_of pairs (λ k d in_list. ((all k d in_list).asked, (all k d in_list).answered)))

-- bytes that are not new and represent entries have them
pub has_them : (head : Head) (pairs : List RecordPair) (bytes : List ℕ) → (¬ IsNewDisk bytes) → StandsFor head pairs bytes → HasEntries head pairs bytes
has_them head pairs bytes long (inl new) = absurd (long new.0)
has_them head pairs bytes long (inr has) = has

-- a valid journal is opened in one way
module _ (begin : Start) (pairs : List (Pair Record Outcome)) (market : Market) (journal : IsKeptJournal begin pairs market) where
  pub not_rejected : (legal : List (Pair Record Outcome)) (m : Market) (bad : RecordPair) (more : List RecordPair) → IsKeptJournal begin legal m → map records_of pairs ≡ map records_of legal ++ bad ∷ more → ¬ IsIllegalPair m bad
  not_rejected legal m bad more is parts illegal =
      let one = one_judgement begin pairs legal [] (bad ∷ more) market m (append-nil (map records_of pairs) ∙ parts) journal is tt illegal in
      omega (arith, ap length one.1)

  pub one_kept : (legal : List (Pair Record Outcome)) (m : Market) → IsKeptJournal begin legal m → map records_of pairs ≡ map records_of legal → (pairs ≡ legal) × (market ≡ m)
  one_kept legal m is same =
      let one = one_judgement begin pairs legal [] [] market m (append-nil (map records_of pairs) ∙ same ∙ sym (append-nil (map records_of legal))) journal is tt tt in
      (one.0, one.2)

-- valid first entries, after an equal beginning
pub same_begins : (v w : Start) (bytes : List ℕ) (legal : List (Pair Record Outcome)) (m : Market) (place : ℕ) → v ≡ w → BeginsLegal v bytes legal m place → BeginsLegal w bytes legal m place
same_begins v w bytes legal m place is begins = subst (λ (x : Start). BeginsLegal x bytes legal m place) is begins

-- a journal that bytes have is the one that they have
pub same_journal : (v w : Start) (bytes : List ℕ) (p q : List (Pair Record Outcome)) (m n : Market) → IsKeptJournal v p m → IsKeptJournal w q n → HasEntries (head_of v) (map records_of p) bytes → HasEntries (head_of w) (map records_of q) bytes → (v ≡ w) × (p ≡ q) × (m ≡ n)
same_journal v w bytes p q m n a b has other =
    let disk = same_disk (head_of v) (head_of w) (map records_of p) (map records_of q) bytes has other in
    let same = one_begin v w a.starts b.starts disk.0 in
    let one = one_kept v p m a q n (subst (λ (x : Start). IsKeptJournal x q n) (sym same) b) disk.1 in
    (same, one.0, one.1)

module _ (begin : Start) (pairs : List (Pair Record Outcome)) (market : Market) (bytes : List ℕ) (journal : IsKeptJournal begin pairs market) (keeps : StandsForJournal begin pairs bytes) (small : length bytes ≤ 2 ^ 60) where
  abbrev kept : List RecordPair
  kept = map records_of pairs

  has_kept : (¬ IsNewDisk bytes) → HasEntries (head_of begin) kept bytes
  has_kept long = has_them (head_of begin) kept bytes long keeps

  alike : (long : ¬ IsNewDisk bytes) (v : Start) (legal : List (Pair Record Outcome)) (m : Market) (place : ℕ) (begins : BeginsLegal v bytes legal m place)
      → (v ≡ begin) ⊎ ((IsBare v (map records_of legal) × (n : Market) × HasFirst n bytes) ⊎ (IsBare begin kept × (n : Market) × HasFirst n bytes))
  alike long v legal m place begins =
      let has = has_kept long in
      begin_alike bytes v begin (map records_of legal) kept begins.rest (has.commit ∷ has.rest) begins.journal.starts journal.starts begins.lawful has.lawful
      (kept_each legal begins.journal.each) has.each begins.encoded has.encoded

  not_damaged : (place : ℕ) → (¬ IsNewDisk bytes) → IsDamaged place bytes → ⊥
  not_damaged place long is =
      elim (alike long is.0 is.1 is.2 place is.3) [
        | inl same ↦
            let begins = same_begins is.0 begin bytes is.1 is.2 place same is.3 in
            undamaged (head_of begin) (map records_of is.1) kept begins.rest bytes place (kept_each is.1 begins.journal.each) begins.encoded begins.begins (has_kept long) small is.4
        | inr other ↦
            elim other [
              | inl here ↦ is.5 (is.3.begins ∙ bare_place is.0 (map records_of is.1) here.0) here.1 _ (first_legal here.1 bytes here.2)
              | inr there ↦ long (bare_new begin kept bytes there.0 (has_kept long))
            ]
      ]

  not_illegal : (long : ¬ IsNewDisk bytes) (v : Start) (legal : List (Pair Record Outcome)) (m : Market) (place : ℕ) (begins : BeginsLegal v bytes legal m place) (bad : RecordPair) (rest : List ℕ) → HasEntryAt place bad rest bytes → IsIllegalPair m bad → ⊥
  not_illegal long v legal m place found bad rest has illegal =
      elim (alike long v legal m place found) [
        | inl same ↦
            let begins = same_begins v begin bytes legal m place same found in
            let first = map records_of legal in
            let whole = one_after (head_of begin) first bad begins.rest rest bytes place begins.encoded begins.begins has.encoded in
            let more = prefix_of (head_of begin) (first ++ bad ∷ []) kept rest bytes (each_more IsRecordPair first bad (kept_each legal begins.journal.each) has.is_pair) whole (has_kept long) in
            not_rejected begin pairs market journal legal m bad more.0 begins.journal (more.1 ∙ append_assoc first (bad ∷ []) more.0) illegal
        | inr other ↦
            elim other [
              | inl here ↦ first_no_entry bytes here.1 here.2 bad rest (subst (λ (n : ℕ). HasEntryAt n bad rest bytes) (found.begins ∙ bare_place v (map records_of legal) here.0) has)
              | inr there ↦ long (bare_new begin kept bytes there.0 (has_kept long))
            ]
      ]

  legal_opens : (opening : Opening) → IsOpening bytes opening → (opening ≡ New) ⊎ (opening ≡ Legal begin pairs market)
  legal_opens Foreign is = absurd (not_foreign (head_of begin) kept bytes keeps small is)
  legal_opens New is = inl refl
  legal_opens (Damaged place) is = absurd (not_damaged place is.0 is.2)
  legal_opens (Rejected number) is = absurd (not_illegal is.0 is.2 is.3 is.4 is.5 is.6 is.7 is.8 is.9 is.10)
  legal_opens (Legal w ps m) is =
      let same = same_journal begin w bytes pairs ps market m journal is.2 (has_kept is.0) is.3 in
      inr (cc (same.0, same.1, same.2))

pub legal_is_opened : LegalIsOpened
legal_is_opened begin pairs market bytes opening journal keeps small is = legal_opens begin pairs market bytes journal keeps small opening is
