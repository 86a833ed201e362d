-- A call that stopped at an entry of the file: what is there isn't what the lines ask for, so no other call goes on there.
use Rattle.std.proofs.Common.{◌≡◌, ◌≢◌, ◌⊎◌, inl, inr, ℕ, ◌+◌, List, [], ◌∷◌, ◌++◌, length, length-append, append-nil, append_assoc, map, take, Some, refl, sym, ap, subst, ◌∙◌, arith}
use Rattle.wire_records.specs.Records.{Record}
use Rattle.wire_records.specs.Commands.{Command, Pair}
use Rattle.wire_records.specs.CommandRecords.{record_of}
use Rattle.wire_records.specs.Versions.{IsReadAs}
use Rattle.flow_orders.specs.Outcomes.{Outcome, IsAdmissibleOutcome}
use Rattle.journal_records.specs.Pairs.{IsPair}
use Rattle.journal_records.specs.Formats.{records_of}
use Rattle.canonical_rule.specs.Canonical.{IsCanonicalOutcome}
use Rattle.market_rules.specs.Market.{Market, IsConsistent}
use Rattle.market_rules.specs.Journal.{Step, Follows}
use Rattle.market_rules.proofs.LawProofs.{steps_keep_consistency}
use Rattle.market_history.specs.Histories.{Start, Empty, Kept, market_of, CanStart}
use Rattle.batch_audit.specs.Legal.{IsLegalPair, IsIllegalPair}
use Rattle.disk_edge.specs.Disks.{DiskState}
use Rattle.journal_disk.specs.Pairs.{RecordPair}
use Rattle.journal_disk.specs.Entries.{HasEntries, IsNewDisk, entries}
use Rattle.journal_disk.specs.Recovering.{IsForeign}
use Rattle.journal_disk.specs.Stepping.{HasEntryAt, IsClosedAt, IsDamagedAt}
use Rattle.journal_disk.proofs.Excluding.{one_thing}
use Rattle.journal_keeping.specs.Starts.{head_of}
use Rattle.journal_keeping.specs.Keeping.{IsKeptJournal}
use Rattle.journal_keeping.specs.Openings.{Opening, Legal, BeginsLegal}
use Rattle.journal_keeping.proofs.OneOpening.{one_opening}
use Rattle.journal_keeping.specs.Outputs.{Output}
use Rattle.desk_lines.specs.Laws.{OneHearing, OneWish}
use Rattle.desk_messages.specs.Desks.{Desks}
use Rattle.desk_opening.specs.Books.{Continues}
use Rattle.desk_opening.specs.Laws.{OneBeginning}
use Rattle.desk_keeping.specs.Hosting.{Entries, Texts, desks_of, AreHosted, HasUpTo, HasMore, HasEntriesOf, StopsAtEntry, IsEntryInvalid, IsEntryOther}
use Rattle.desk_keeping.specs.declared.fault.HostFault.{HostFault}
use Rattle.desk_keeping.specs.declared.fault.HostFault.TheVariants.{Damaged, Rejected, Differs}
use Rattle.host_laws.proofs.Together.{Alike, StayAlike, AreOne, one_stays, lines_alike}
use Rattle.host_laws.proofs.Continuing.{AreContinued, continued_stays}
use Rattle.host_laws.proofs.Lockstep.{GoesOn, Walks, walks_all, walks_into, walks_meet}
use Rattle.host_laws.proofs.Inputs.{HasText, text_first, one_text}
use Rattle.host_laws.proofs.Files.{same_file, all_of_file, all_legal, all_closed, pair_at, BeginsSo, read_alike, kept_alike}

-- ---- why it stopped

-- Why a call stopped at an entry: damage at a place, an entry of a number that isn't valid, or one that is another than the lines ask for.
pub data Cause : Type 0 where
  AtDamage : (place : ℕ) → Cause
  AtInvalid : (number : ℕ) → Cause
  AtOther : (number : ℕ) → Cause

abbrev pub fault_of : Cause → HostFault
fault_of (AtDamage place) = Damaged place
fault_of (AtInvalid number) = Rejected number
fault_of (AtOther number) = Differs number

abbrev pub Why : List ℕ → Cause → (at : ℕ) → Entries → Market → List Command → Type 0
Why held (AtDamage place) at pairs market next = (at ≡ place) × IsDamagedAt place held
Why held (AtInvalid number) at pairs market next = (number ≡ length pairs + 1) × IsEntryInvalid held at market
Why held (AtOther number) at pairs market next = (number ≡ length pairs + 1) × IsEntryOther held at market next

-- an entry of another record than the first command's
other_there : (held : List ℕ) (at : ℕ) (m : Market) (next : List Command) → IsEntryOther held at m next → (other : RecordPair) × (rest : List ℕ) × HasEntryAt at other rest held × (¬ IsIllegalPair m other)
other_there held at m [] is = absurd is
other_there held at m (command ∷ commands) (other, rest, has, legal, differs) = (other, rest, has, legal)

module _ (held : List ℕ) (at : ℕ) where
  -- no commit byte is there that isn't set
  not_closed : (cause : Cause) (p : Entries) (m : Market) (next : List Command) → Why held cause at p m next → IsClosedAt at held → ⊥
  not_closed (AtDamage place) p m next (same, damage) closed = one_thing.closed_not_damaged at held closed (subst (λ (k : ℕ). IsDamagedAt k held) (sym same) damage)
  not_closed (AtInvalid number) p m next (counted, (bad, rest, has, illegal)) closed = one_thing.entry_not_closed at held bad rest has closed
  not_closed (AtOther number) p m next (counted, is) closed =
      let (other, rest, has, legal) = other_there held at m next is in
      one_thing.entry_not_closed at held other rest has closed

  -- no entry is there that the next command asks for
  not_asked : (cause : Cause) (p : Entries) (m after : Market) (command : Command) (commands : List Command) (pair : Pair Record Outcome) (left : List ℕ) → Why held cause at p m (command ∷ commands)
      → IsPair pair → HasEntryAt at (records_of pair) left held → pair.asked ≡ record_of command → Step IsReadAs IsAdmissibleOutcome m pair.asked pair.answer after → ⊥
  not_asked (AtDamage place) p m after command commands pair left (same, damage) is_pair has asked step =
      one_thing.entry_not_damaged at held (records_of pair) left has (subst (λ (k : ℕ). IsDamagedAt k held) (sym same) damage)
  not_asked (AtInvalid number) p m after command commands pair left (counted, (bad, rest, is, illegal)) is_pair has asked step =
      let same : bad ≡ records_of pair = (one_thing.one_entry at held bad (records_of pair) rest left is has).0 in
      let legal : IsLegalPair m (records_of pair) after = record { answer = pair.answer; encoded = record { fits = is_pair.answer; encoded = refl }; step = step } in
      illegal after (subst (λ (r : RecordPair). IsLegalPair m r after) (sym same) legal)
  not_asked (AtOther number) p m after command commands pair left (counted, (other, rest, is, legal, differs)) is_pair has asked step =
      let same : other ≡ records_of pair = (one_thing.one_entry at held other (records_of pair) rest left is has).0 in
      differs (ap (λ (r : RecordPair). r.0) same ∙ asked)

  -- there is one cause
  one_cause : (a b : Cause) (p : Entries) (m : Market) (next : List Command) → Why held a at p m next → Why held b at p m next → a ≡ b
  one_cause (AtDamage place) (AtDamage other) p m next x y = ap AtDamage (sym x.0 ∙ y.0)
  one_cause (AtDamage place) (AtInvalid number) p m next (same, damage) (counted, (bad, rest, has, illegal)) =
      absurd (one_thing.entry_not_damaged at held bad rest has (subst (λ (k : ℕ). IsDamagedAt k held) (sym same) damage))
  one_cause (AtDamage place) (AtOther number) p m next (same, damage) (counted, is) =
      let (other, rest, has, legal) = other_there held at m next is in
      absurd (one_thing.entry_not_damaged at held other rest has (subst (λ (k : ℕ). IsDamagedAt k held) (sym same) damage))
  one_cause (AtInvalid number) (AtDamage place) p m next (counted, (bad, rest, has, illegal)) (same, damage) =
      absurd (one_thing.entry_not_damaged at held bad rest has (subst (λ (k : ℕ). IsDamagedAt k held) (sym same) damage))
  one_cause (AtInvalid number) (AtInvalid other) p m next x y = ap AtInvalid (x.0 ∙ sym y.0)
  one_cause (AtInvalid number) (AtOther counted) p m next (c, (bad, rest, has, illegal)) (k, is) =
      let (other, left, there, legal) = other_there held at m next is in
      absurd (legal (subst (λ (r : RecordPair). IsIllegalPair m r) (one_thing.one_entry at held bad other rest left has there).0 illegal))
  one_cause (AtOther number) (AtDamage place) p m next (counted, is) (same, damage) =
      let (other, rest, has, legal) = other_there held at m next is in
      absurd (one_thing.entry_not_damaged at held other rest has (subst (λ (k : ℕ). IsDamagedAt k held) (sym same) damage))
  one_cause (AtOther number) (AtInvalid counted) p m next (k, is) (c, (bad, rest, has, illegal)) =
      let (other, left, there, legal) = other_there held at m next is in
      absurd (legal (subst (λ (r : RecordPair). IsIllegalPair m r) (one_thing.one_entry at held bad other rest left has there).0 illegal))
  one_cause (AtOther number) (AtOther other) p m next x y = ap AtOther (x.0 ∙ sym y.0)

-- no entry of the file goes on where a call stopped
pub no_more : (held : List ℕ) (begin : Start) (cause : Cause) (p q more : Entries) (m n : Market) (next : List Command) (place at : ℕ)
    → (¬ IsForeign held) → Why held cause place p m next → BeginsLegal begin held p m place → BeginsLegal begin held q n at → q ≡ p ++ more → GoesOn m next more → ⊥
no_more held begin cause p q more m n [] place at known why a b parts on = on
no_more held begin cause p q more m n (command ∷ commands) place at known why a b parts (pair, others, after, more_is, asked, step) =
    let (is_pair, (left, has)) = pair_at held begin p q others m n place at pair known a b (parts ∙ ap (λ (l : Entries). p ++ l) more_is) in
    not_asked held place cause p m after command commands pair left why is_pair has asked step

-- nothing goes on where no entry follows
pub none_follow : (m : Market) (next : List Command) → GoesOn m next [] → ⊥
none_follow m [] on = on
none_follow m (command ∷ commands) (pair, others, after, is, asked, step) = absurd cc

-- the first of some entries is that of these and of more
first_goes : (m : Market) (next : List Command) (pair : Pair Record Outcome) (others more : Entries) → GoesOn m next (pair ∷ (others ++ more)) → GoesOn m next (pair ∷ others)
first_goes m [] pair others more on = on
first_goes m (command ∷ commands) pair others more (first, left, after, is, asked, step) =
    let same : pair ≡ first = head_of_both pair first (others ++ more) left is in
    (first, others, after, ap (λ (z : Pair Record Outcome). z ∷ others) same, asked, step)
  where
    head_of_both : (v w : Pair Record Outcome) (x y : Entries) → v ∷ x ≡ w ∷ y → v ≡ w
    head_of_both v w x y e = cc

-- all entries of the file come before the place, or one of them goes on there
pub none_after : (held : List ℕ) (begin : Start) (cause : Cause) (p old new rest : Entries) (m before : Market) (next : List Command) (place : ℕ) → HasUpTo held begin p m place → Why held cause place p m next
    → IsKeptJournal begin old before → HasEntries (head_of begin) (map records_of old) held → old ≡ p ++ rest → GoesOn m next (rest ++ new) → ⊥
none_after held begin cause p old new [] m before next place has why journal all old_is on =
    not_closed held place cause p m next why
    (all_closed held begin old place all (has.legal.begins ∙ ap (λ (l : Entries). length (entries (head_of begin) (map records_of l))) (sym (old_is ∙ append-nil p))))
none_after held begin cause p old new (pair ∷ rest) m before next place has why journal all old_is on =
    no_more held begin cause p old (pair ∷ rest) m before next place (length (entries (head_of begin) (map records_of old))) has.is_file why has.legal (all_legal held begin old before journal all) old_is
    (first_goes m next pair rest new on)

-- ---- calls

-- A call stopped at an entry of the file: how the input begins, its lines, the way through them, and what the file has there.
pub record IsStopped (held bytes : List ℕ) (cause : Cause) : Type 0 where
  pub begin : Start
  pub lines : List (List ℕ)
  pub is : HasText bytes begin lines
  pub next : List Command
  pub asks : next ≢ []
  pub pairs : Entries
  pub texts : Texts
  pub market : Market
  pub desks : Desks
  pub walks : Walks (market_of begin) (desks_of begin) 0 lines next pairs texts market desks
  pub place : ℕ
  pub has : HasUpTo held begin pairs market place
  pub why : Why held cause place pairs market next

unfoldable pub stopped : (limit : ℕ) (held bytes : List ℕ) (start end : DiskState) (out later : Output) (cause : Cause) → StopsAtEntry limit held (Some bytes) start end out later (Why held cause) → IsStopped held (take limit bytes) cause
stopped limit held bytes start end out later cause s =
    let all = text_first (take limit bytes) s.begin (s.lines ++ s.line ∷ []) s.are in
    record {
      begin = s.begin;
      lines = s.lines ++ s.line ∷ all.0;
      is = subst (λ (l : List (List ℕ)). HasText (take limit bytes) s.begin l) (append_assoc s.lines (s.line ∷ []) all.0) all.1;
      next = s.next;
      asks = s.asks;
      pairs = s.pairs;
      texts = s.texts;
      market = s.market;
      desks = s.desks;
      walks = walks_into s.lines s.line all.0 s.next s.pairs s.texts (market_of s.begin) s.market (desks_of s.begin) s.desks 0 s.asks s.hosted;
      place = s.place;
      has = s.file.has;
      why = s.why;
    }

-- entries that lines asked for are the first ones of the file, or all that it had and others by the canonical rule
abbrev pub AreOf : List ℕ → Start → Entries → Type 0
AreOf held begin pairs =
    ((market : Market) × (place : ℕ) × HasUpTo held begin pairs market place)
    ⊎ ((old : Entries) × (before : Market) × (new : Entries) × (after : Market) × Continues held begin old before × (pairs ≡ old ++ new) × Follows IsReadAs IsCanonicalOutcome before new after)

pub are_of : (held : List ℕ) (begin : Start) (pairs : Entries) (market : Market) (start end : DiskState) → HasEntriesOf held begin pairs market start end → AreOf held begin pairs
are_of held begin pairs market start end (inl (place, read)) = inl (market, place, read.has)
are_of held begin pairs market start end (inr more) = inr (more.old, more.before, more.new, market, more.continues, more.parts, more.steps)

-- a file begins as its entries
pub of_alike : (held : List ℕ) (begin : Start) (pairs : Entries) → AreOf held begin pairs → (v : Start) → BeginsSo held v → (¬ IsNewDisk held) → v ≡ begin
of_alike held begin pairs (inl (m, place, has)) v so long = read_alike held v begin so pairs m place has
of_alike held begin pairs (inr (old, before, new, after, inl legal, parts, follows)) v so long = kept_alike held v begin so old before long legal.2 legal.3
of_alike held begin pairs (inr (old, before, new, after, inr is_new, parts, follows)) v so long = absurd (long is_new.0.0)

-- All lines were answered: how the input begins, its lines, what they asked for, and that their entries are the file's.
pub record IsAnswered (held bytes : List ℕ) : Type 0 where
  pub begin : Start
  pub lines : List (List ℕ)
  pub is : HasText bytes begin lines
  pub pairs : Entries
  pub texts : Texts
  pub market : Market
  pub desks : Desks
  pub hosted : AreHosted begin lines pairs texts market desks
  pub file : AreOf held begin pairs

-- ---- two calls

module _ (one_hearing : OneHearing) (one_wish : OneWish) (held : List ℕ) (begin : Start) (lines : List (List ℕ)) where
  abbrev Way : List Command → Entries → Texts → Market → Desks → Type 0
  Way next pairs texts market desks = Walks (market_of begin) (desks_of begin) 0 lines next pairs texts market desks

  -- the first of two calls that stopped
  first_cause : (a b : Cause) (next rest : List Command) (p q more : Entries) (t u : Texts) (m n : Market) (x y : Desks) (place at : ℕ) → Way next p t m x → Way rest q u n y → HasUpTo held begin p m place → HasUpTo held begin q n at
      → Why held a place p m next → Why held b at q n rest → q ≡ p ++ more → (a ≡ b) × (t ≡ u)
  first_cause a b next rest p q more t u m n x y place at walks also has there why because parts =
      elim (walks_meet one_hearing one_wish lines next rest p q t u (market_of begin) m n (desks_of begin) x y 0 more [] walks also (sym parts ∙ sym (append-nil q))) [
        | inl (same, next_is, more_is) ↦
            let place_is : at ≡ place = there.legal.begins ∙ ap (λ (l : Entries). length (entries (head_of begin) (map records_of l))) (sym same.entries) ∙ sym has.legal.begins in (
              one_cause held place a b p m next why
                  (subst (λ (k : ℕ). Why held b k p m next) place_is
                  (subst (λ (l : Entries). Why held b at l m next) (sym same.entries)
                  (subst (λ (k : Market). Why held b at q k next) (sym same.market) (subst (λ (c : List Command). Why held b at q n c) (sym next_is) because)))),
              same.texts,
            )
        | inr left ↦
            elim left [
              | inl on ↦ absurd (no_more held begin a p q more m n next place at has.is_file why has.legal there.legal parts on)
              | inr on ↦ absurd (none_follow n rest on)
            ]
      ]

  both_stopped : (a b : Cause) (next rest : List Command) (p q : Entries) (t u : Texts) (m n : Market) (x y : Desks) (place at : ℕ) → Way next p t m x → Way rest q u n y → HasUpTo held begin p m place → HasUpTo held begin q n at
      → Why held a place p m next → Why held b at q n rest → (a ≡ b) × (t ≡ u)
  both_stopped a b next rest p q t u m n x y place at walks also has there why because =
      elim (same_file held begin p q m n place at has.legal there.legal) [
        | inl more ↦ first_cause a b next rest p q more.0 t u m n x y place at walks also has there why because more.1
        | inr more ↦
            let (same, texts) = first_cause b a rest next q p more.0 u t n m y x at place also walks there has because why more.1 in
            (sym same, sym texts)
      ]

  -- a call that stopped, and one that answered all lines
  stopped_or_not : (cause : Cause) (next : List Command) (p q : Entries) (t u : Texts) (m n : Market) (x y : Desks) (place : ℕ) → next ≢ [] → Way next p t m x → Way [] q u n y → HasUpTo held begin p m place
      → Why held cause place p m next → AreOf held begin q → ⊥
  stopped_or_not cause next p q t u m n x y place asks walks also has why file = by file
    where
      -- the entries beyond those of the stopped call
      beyond : (a b : Entries) → p ++ a ≡ q ++ b → GoesOn m next a
      beyond a b e =
          elim (walks_meet one_hearing one_wish lines next [] p q t u (market_of begin) m n (desks_of begin) x y 0 a b walks also e) [
            | inl (same, next_is, left) ↦ absurd (asks next_is)
            | inr left ↦ elim left [ inl on ↦ on | inr on ↦ absurd on ]
          ]

      by : AreOf held begin q → ⊥
      by (inl (k, at, there)) =
          elim (same_file held begin p q m k place at has.legal there.legal) [
            | inl more ↦ no_more held begin cause p q more.0 m k next place at has.is_file why has.legal there.legal more.1 (beyond more.0 [] (sym more.1 ∙ sym (append-nil q)))
            | inr more ↦ none_follow m next (beyond [] more.0 (append-nil p ∙ more.1))
          ]
      by (inr (old, before, new, after, inl legal, parts, follows)) =
          let rest = all_of_file held begin p old m before place has.legal legal.2 legal.3 in
          let e : p ++ (rest.0 ++ new) ≡ q ++ [] = sym (append_assoc p rest.0 new) ∙ ap (λ (l : Entries). l ++ new) (sym rest.1) ∙ sym parts ∙ sym (append-nil q) in
          none_after held begin cause p old new rest.0 m before next place has why legal.2 legal.3 rest.1 (beyond (rest.0 ++ new) [] e)
      by (inr (old, before, new, after, inr is_new, parts, follows)) = has.is_old is_new.0.0

-- ---- two calls that answered all lines

no_entries : (l : Entries) → length l ≡ 0 → l ≡ []
no_entries [] is = refl
no_entries (pair ∷ others) is = absurd (omega (arith, is))

-- a call that only looked at the file added no entry, so none with the same entries did
pub only_looked : (held : List ℕ) (begin : Start) (p : Entries) (m n : Market) (place : ℕ) (end : DiskState) → HasUpTo held begin p m place → HasMore held begin p n end → ⊥
only_looked held begin p m n place end has file = by file.continues
  where
    by : Continues held begin file.old file.before → ⊥
    by (inr is_new) = has.is_old is_new.0.0
    by (inl legal) =
        let rest = all_of_file held begin p file.old m file.before place has.legal legal.2 legal.3 in
        let none : file.new ≡ [] = no_entries file.new (omega (arith, ap length file.parts, length-append file.old file.new, ap length rest.1, length-append p rest.0)) in
        elim file.more [ inl some ↦ some none | inr is_new ↦ legal.0 is_new.0 ]

same_legal : (v : Start) (p q : Entries) (m n : Market) → ◌≡◌ {A = Opening} (Legal v p m) (Legal v q n) → (p ≡ q) × (m ≡ n)
same_legal v p q m n e = (cc, cc)

begins_consistent : (begin : Start) → CanStart begin → IsConsistent (market_of begin)
begins_consistent (Empty version) starts = steps_keep_consistency.0 version
begins_consistent (Kept market) starts = starts.consistent

module _ (held : List ℕ) (begin : Start) where
  -- a file is continued in one way
  continues_once : (old other : Entries) (m n : Market) → Continues held begin old m → Continues held begin other n → (old ≡ other) × (m ≡ n)
  continues_once old other m n (inl x) (inl y) = same_legal begin old other m n (one_opening held (Legal begin old m) (Legal begin other n) x y)
  continues_once old other m n (inl x) (inr y) = absurd (x.0 y.0.0)
  continues_once old other m n (inr x) (inl y) = absurd (y.0 x.0.0)
  continues_once old other m n (inr x) (inr y) = (x.1 ∙ sym y.1, x.2 ∙ sym y.2)

  -- from the beginning on
  continues_from : (old : Entries) (m : Market) → Continues held begin old m → Follows IsReadAs IsAdmissibleOutcome (market_of begin) old m
  continues_from old m (inl x) = x.2.steps
  continues_from old m (inr x) = subst (λ (l : Entries). Follows IsReadAs IsAdmissibleOutcome (market_of begin) l m) (sym x.1) x.2

-- two lists of entries of one file are alike, with some that follow them
pub record FilesAlike (m : Market) (p q : Entries) : Type 1 where
  pub rule : Alike
  pub stay : StayAlike rule
  pub a : Entries
  pub b : Entries
  pub alike : rule m (p ++ a) (q ++ b)

same_entries : (m : Market) (p q a b : Entries) → p ++ a ≡ q ++ b → FilesAlike m p q
same_entries m p q a b e = record { rule = AreOne; stay = one_stays; a = a; b = b; alike = e }

pub files_alike : (held : List ℕ) (begin : Start) → CanStart begin → (p q : Entries) → AreOf held begin p → AreOf held begin q → FilesAlike (market_of begin) p q
files_alike held begin starts p q (inl (k, place, has)) (inl (l, at, there)) =
    elim (same_file held begin p q k l place at has.legal there.legal) [
      | inl more ↦ same_entries (market_of begin) p q more.0 [] (sym more.1 ∙ sym (append-nil q))
      | inr more ↦ same_entries (market_of begin) p q [] more.0 (append-nil p ∙ more.1)
    ]
files_alike held begin starts p q (inl (k, place, has)) (inr (old, before, new, after, inl legal, parts, follows)) =
    let rest = all_of_file held begin p old k before place has.legal legal.2 legal.3 in
    same_entries (market_of begin) p q (rest.0 ++ new) [] (sym (append_assoc p rest.0 new) ∙ ap (λ (l : Entries). l ++ new) (sym rest.1) ∙ sym parts ∙ sym (append-nil q))
files_alike held begin starts p q (inl (k, place, has)) (inr (old, before, new, after, inr is_new, parts, follows)) = absurd (has.is_old is_new.0.0)
files_alike held begin starts p q (inr (old, before, new, after, inl legal, parts, follows)) (inl (k, at, there)) =
    let rest = all_of_file held begin q old k before at there.legal legal.2 legal.3 in
    same_entries (market_of begin) p q [] (rest.0 ++ new) (append-nil p ∙ parts ∙ ap (λ (l : Entries). l ++ new) rest.1 ∙ append_assoc q rest.0 new)
files_alike held begin starts p q (inr (old, before, new, after, inr is_new, parts, follows)) (inl (k, at, there)) = absurd (there.is_old is_new.0.0)
files_alike held begin starts p q (inr (old, before, new, after, continues, parts, follows)) (inr (first, between, others, last, too, split, moves)) =
    let (same, market) = continues_once held begin old first before between continues too in
    record {
      rule = AreContinued;
      stay = continued_stays;
      a = [];
      b = [];
      alike = record {
        consistent = begins_consistent begin starts;
        old = old;
        new = new;
        other = others;
        parts = append-nil p ∙ parts;
        also = append-nil q ∙ split ∙ ap (λ (l : Entries). l ++ others) (sym same);
        between = before;
        after = after;
        last = last;
        steps = continues_from held begin old before continues;
        follows = follows;
        moves = subst (λ (k : Market). Follows IsReadAs IsCanonicalOutcome k others last) (sym market) moves;
      };
    }

module _ (one_hearing : OneHearing) (one_wish : OneWish) (held : List ℕ) (begin : Start) (lines : List (List ℕ)) (starts : CanStart begin) where
  both_answered : (p q : Entries) (t u : Texts) (m n : Market) (x y : Desks) → AreHosted begin lines p t m x → AreHosted begin lines q u n y → AreOf held begin p → AreOf held begin q → (p ≡ q) × (t ≡ u)
  both_answered p q t u m n x y hosted also file other =
      let f = files_alike held begin starts p q file other in
      let (same, end) = lines_alike f.rule f.stay one_hearing one_wish lines p q t u (market_of begin) m n (desks_of begin) x y 0 f.a f.b hosted also f.alike in
      (same.entries, same.texts)

module _ (one_hearing : OneHearing) (one_wish : OneWish) (one_beginning : OneBeginning) (held bytes : List ℕ) where
  -- two calls that stopped did so for one cause, with the same texts
  pub one_stop : (a b : Cause) (x : IsStopped held bytes a) (y : IsStopped held bytes b) → (a ≡ b) × (x.texts ≡ y.texts)
  one_stop a b x y =
      let same = one_text one_beginning bytes x.begin y.begin x.lines y.lines x.is y.is in
      let walks : Walks (market_of x.begin) (desks_of x.begin) 0 x.lines y.next y.pairs y.texts y.market y.desks =
      subst (λ (v : Start). Walks (market_of v) (desks_of v) 0 x.lines y.next y.pairs y.texts y.market y.desks) (sym same.0)
      (subst (λ (l : List (List ℕ)). Walks (market_of y.begin) (desks_of y.begin) 0 l y.next y.pairs y.texts y.market y.desks) (sym same.1) y.walks) in
      both_stopped one_hearing one_wish held x.begin x.lines a b x.next y.next x.pairs y.pairs x.texts y.texts x.market y.market x.desks y.desks x.place y.place x.walks walks x.has
      (subst (λ (v : Start). HasUpTo held v y.pairs y.market y.place) (sym same.0) y.has) x.why y.why

  -- no call stopped where another answered all lines
  pub not_stopped : (cause : Cause) → IsStopped held bytes cause → IsAnswered held bytes → ⊥
  not_stopped cause x y =
      let same = one_text one_beginning bytes x.begin y.begin x.lines y.lines x.is y.is in
      let hosted : AreHosted x.begin x.lines y.pairs y.texts y.market y.desks =
      subst (λ (v : Start). AreHosted v x.lines y.pairs y.texts y.market y.desks) (sym same.0)
      (subst (λ (l : List (List ℕ)). AreHosted y.begin l y.pairs y.texts y.market y.desks) (sym same.1) y.hosted) in
      let walks : Walks (market_of x.begin) (desks_of x.begin) 0 x.lines [] y.pairs y.texts y.market y.desks = walks_all x.lines y.pairs y.texts (market_of x.begin) y.market (desks_of x.begin) y.desks 0 hosted in
      stopped_or_not one_hearing one_wish held x.begin x.lines cause x.next x.pairs y.pairs x.texts y.texts x.market y.market x.desks y.desks x.place x.asks x.walks walks x.has x.why
      (subst (λ (v : Start). AreOf held v y.pairs) (sym same.0) y.file)

  -- two calls that answered all lines did so by the same entries, with the same texts
  pub one_answer : (x y : IsAnswered held bytes) → (x.begin ≡ y.begin) × (x.pairs ≡ y.pairs) × (x.texts ≡ y.texts)
  one_answer x y =
      let same = one_text one_beginning bytes x.begin y.begin x.lines y.lines x.is y.is in
      let (entries, texts) = both_answered one_hearing one_wish held x.begin x.lines x.is.starts x.pairs y.pairs x.texts y.texts x.market y.market x.desks y.desks x.hosted
      (subst (λ (v : Start). AreHosted v x.lines y.pairs y.texts y.market y.desks) (sym same.0)
      (subst (λ (l : List (List ℕ)). AreHosted y.begin l y.pairs y.texts y.market y.desks) (sym same.1) y.hosted)) x.file
      (subst (λ (v : Start). AreOf held v y.pairs) (sym same.0) y.file) in
      (same.0, entries, texts)
