-- What a result says of the bytes of a file and of an input: one result and one output for the same bytes.
use Rattle.std.proofs.Common.{◌≡◌, ◌⊎◌, ◌≤◌, ◌<◌, inl, inr, ℕ, List, [], Option, Some, Result, Ok, Err, length, take, refl, sym, ap, subst, ◌∙◌, arith}
use Rattle.std.specs.Prelude.{⊤}
use Rattle.std.proofs.lemmas.List.{take_all}
use Rattle.market_rules.specs.Market.{Market}
use Rattle.market_history.specs.Histories.{Start}
use Rattle.disk_edge.specs.Disks.{DiskState}
use Rattle.journal_disk.specs.Entries.{IsNewDisk}
use Rattle.journal_disk.specs.Looking.{OnlyLooks}
use Rattle.journal_keeping.specs.Inputs.{BeginsUnsound}
use Rattle.journal_keeping.specs.Openings.{Opening, Foreign, New, Legal, IsOpening}
use Rattle.journal_keeping.specs.Openings as opening
use Rattle.journal_keeping.specs.Outputs.{Output, Gains}
use Rattle.journal_keeping.specs.Dialogs.{KeepsJust}
use Rattle.journal_keeping.proofs.Gaining.{gains_none}
use Rattle.journal_keeping.proofs.OneOpening.{one_opening}
use Rattle.desk_lines.specs.Laws.{OneHearing, OneWish}
use Rattle.desk_opening.specs.Beginnings.{BeginsWithNeither}
use Rattle.desk_opening.specs.Laws.{OneBeginning}
use Rattle.desk_opening.specs.Openings.{IsNoBook}
use Rattle.desk_keeping.specs.Hosting.{Entries, HasAllLines, HasMore, HasEntriesOf, HasAnswered, StopsAtEntry, ComesTo, IsOfFile}
use Rattle.desk_keeping.specs.declared.fault.HostFault.{HostFault}
use Rattle.desk_keeping.specs.declared.fault.HostFault.TheVariants.{Read, Write, Disk, Memory, NotDisk, Damaged, Rejected, NotFlow, BadCheckpoint, TooLong, Differs}
use Rattle.host_laws.specs.Laws.{GainAlike, KeepAlike, IsFailure, OneHostedOutput}
use Rattle.host_laws.proofs.Inputs.{HasText, text_all, text_first, one_text, not_neither, not_unsound, begins_neither, begins_unsound}
use Rattle.host_laws.proofs.Files.{BeginsSo, otherwise_begins, read_alike, damaged_opens}
use Rattle.host_laws.proofs.Stops.{Cause, AtDamage, AtInvalid, AtOther, fault_of, Why, IsStopped, stopped, are_of, of_alike, IsAnswered, one_stop, not_stopped, only_looked, one_answer}

-- ---- what a result says

abbrev pub Ended : Type 0
Ended = Result ⊤ HostFault

-- how a call ended, and its file and its output before and after it
pub record Call : Type 1 where
  pub result : Ended
  pub start : DiskState
  pub end : DiskState
  pub out : Output
  pub later : Output

-- two calls have one result, one output and one file
abbrev Same : Call → Call → Type 0
Same c e = (c.result ≡ e.result) × GainAlike c.out c.later e.out e.later × KeepAlike c.start c.end e.start e.end

keep_turned : (start end other last : DiskState) → KeepAlike start end other last → KeepAlike other last start end
keep_turned start end other last (inl (looks, also)) = inl (also, looks)
keep_turned start end other last (inr (begin, pairs, keeps, also)) = inr (begin, pairs, also, keeps)

turned : (c e : Call) → Same c e → Same e c
turned c e (is, (texts, one, other), file) = (sym is, (texts, other, one), keep_turned c.start c.end e.start e.end file)

-- nothing was written
quiet : (c : Call) → c.later ≡ c.out → Gains ⊥ c.out c.later []
quiet c none = subst (λ (o : Output). Gains ⊥ c.out o []) (sym none) (gains_none ⊥ c.out)

both_quiet : (c e : Call) → c.result ≡ e.result → c.later ≡ c.out → e.later ≡ e.out → OnlyLooks c.start c.end → OnlyLooks e.start e.end → Same c e
both_quiet c e is none also looks sees = (is, ([], quiet c none, quiet e also), inl (looks, sees))

both_told : (c e : Call) (texts other : List (List ℕ)) → c.result ≡ e.result → texts ≡ other → Gains ⊥ c.out c.later texts → Gains ⊥ e.out e.later other → KeepAlike c.start c.end e.start e.end → Same c e
both_told c e texts other is same one also file = (is, (other, subst (λ (t : List (List ℕ)). Gains ⊥ c.out c.later t) same one, also), file)

-- the result of a file that is refused as it is opened
abbrev pub IsOpenedAs : Opening → Ended → Type 0
IsOpenedAs Foreign result = result ≡ Err NotDisk
IsOpenedAs New result = ⊥
IsOpenedAs (opening.Damaged place) result = result ≡ Err (Damaged place)
IsOpenedAs (opening.Rejected number) result = ⊥
IsOpenedAs (Legal begin pairs market) result = ⊥

-- the file was refused by its bytes alone
pub record IsRefused (held : List ℕ) (c : Call) : Type 0 where
  pub none : IsNoBook held
  pub opens : Opening
  pub is : IsOpening held opens
  pub named : IsOpenedAs opens c.result
  pub looks : OnlyLooks c.start c.end

-- the input has no beginning, where `bytes` are those within the limit
abbrev pub LacksBeginning : List ℕ → Ended → Type 0
LacksBeginning bytes result = ((result ≡ Err NotFlow) × BeginsWithNeither bytes) ⊎ ((result ≡ Err BadCheckpoint) × BeginsUnsound bytes)

pub record IsUnbegun (bytes : List ℕ) (c : Call) : Type 0 where
  pub why : LacksBeginning bytes c.result
  pub unwritten : c.later ≡ c.out
  pub looks : OnlyLooks c.start c.end

-- the file begins otherwise than the input
pub record IsOtherwise (held bytes : List ℕ) (c : Call) : Type 0 where
  pub ends : c.result ≡ Err (Differs 0)
  pub unwritten : c.later ≡ c.out
  pub looks : OnlyLooks c.start c.end
  pub begin : Start
  pub lines : List (List ℕ)
  pub is : HasText bytes begin lines
  pub other : Start
  pub so : BeginsSo held other
  pub differs : ¬ (other ≡ begin)
  pub is_old : ¬ IsNewDisk held

-- it stopped at an entry of the file
pub record IsAtEntry (held bytes : List ℕ) (c : Call) : Type 0 where
  pub cause : Cause
  pub ends : c.result ≡ Err (fault_of cause)
  pub is : IsStopped held bytes cause
  pub gained : Gains ⊥ c.out c.later is.texts
  pub looks : OnlyLooks c.start c.end

-- how far the input goes: `all` are all its bytes
abbrev pub GoesSoFar : ℕ → List ℕ → Ended → Type 0
GoesSoFar limit all result = ((length all ≤ limit) × (result ≡ Ok tt)) ⊎ ((limit < length all) × (result ≡ Err TooLong))

-- all lines were answered
pub record IsEnd (limit : ℕ) (held all bytes : List ℕ) (c : Call) : Type 0 where
  pub is : IsAnswered held bytes
  pub gained : Gains ⊥ c.out c.later is.texts
  pub file : HasEntriesOf held is.begin is.pairs is.market c.start c.end
  pub ends : GoesSoFar limit all c.result

-- ---- two results

module _ (one_hearing : OneHearing) (one_wish : OneWish) (one_beginning : OneBeginning) (limit : ℕ) (held all bytes : List ℕ) where
  abbrev Refused : Call → Type 0
  Refused = IsRefused held

  abbrev pub Unbegun : Call → Type 0
  Unbegun = IsUnbegun bytes

  abbrev pub Otherwise : Call → Type 0
  Otherwise = IsOtherwise held bytes

  abbrev AtEntry : Call → Type 0
  AtEntry = IsAtEntry held bytes

  abbrev AtEnd : Call → Type 0
  AtEnd = IsEnd limit held all bytes

  -- what comes once the file is one that can be opened
  abbrev Found : Call → Type 0
  Found c = Unbegun c ⊎ (Otherwise c ⊎ (AtEntry c ⊎ AtEnd c))

  -- a file that is refused by its bytes alone is so before the input
  abbrev Refuses : Call → Type 0
  Refuses c = IsNoBook held → IsOfFile c.result × (c.later ≡ c.out)

  same_opening : (opens : Opening) (a b : Ended) → IsOpenedAs opens a → IsOpenedAs opens b → a ≡ b
  same_opening Foreign a b x y = x ∙ sym y
  same_opening New a b x y = absurd x
  same_opening (opening.Damaged place) a b x y = x ∙ sym y
  same_opening (opening.Rejected number) a b x y = absurd x
  same_opening (Legal begin pairs market) a b x y = absurd x

  refused_opening : (c : Call) (b : Ended) (opens : Opening) → Refused c → IsOpening held opens → IsOpenedAs opens b → c.result ≡ b
  refused_opening c b opens x is named =
      same_opening opens c.result b (subst (λ (o : Opening). IsOpenedAs o c.result) (one_opening held x.opens opens x.is is) x.named) named

  refused_stop : (c : Call) (b : Ended) (cause : Cause) → Refused c → IsOfFile b → b ≡ Err (fault_of cause) → IsStopped held bytes cause → c.result ≡ b
  refused_stop c b (AtDamage place) x of_file is s =
      refused_opening c b (opening.Damaged place) x (damaged_opens held s.begin s.pairs s.market s.place place s.has s.why.0 s.why.1) is
  refused_stop c b (AtInvalid number) x of_file is s = absurd (subst IsOfFile is of_file)
  refused_stop c b (AtOther number) x of_file is s = absurd (subst IsOfFile is of_file)

  refused_first : (c e : Call) → Refused c → Refuses c → Refuses e → Found e → Same c e
  refused_first c e x refuses also (inl y) =
      let of_file = (also x.none).0 in
      elim y.why [ inl is ↦ absurd (subst IsOfFile is.0 of_file) | inr is ↦ absurd (subst IsOfFile is.0 of_file) ]
  refused_first c e x refuses also (inr (inl y)) = absurd (subst IsOfFile y.ends (also x.none).0)
  refused_first c e x refuses also (inr (inr (inl y))) =
      both_quiet c e (refused_stop c e.result y.cause x (also x.none).0 y.ends y.is) (refuses x.none).1 (also x.none).1 x.looks y.looks
  refused_first c e x refuses also (inr (inr (inr y))) =
      let of_file = (also x.none).0 in
      elim y.ends [ inl is ↦ absurd (subst IsOfFile is.1 of_file) | inr is ↦ absurd (subst IsOfFile is.1 of_file) ]

  -- an input without a beginning has no lines
  pub no_text : (c : Call) (begin : Start) (lines : List (List ℕ)) → Unbegun c → HasText bytes begin lines → ⊥
  no_text c begin lines x has = elim x.why [ inl is ↦ not_neither bytes begin lines has is.1 | inr is ↦ not_unsound bytes begin lines has is.1 ]

  unbegun_one : (a b : Ended) → LacksBeginning bytes a → LacksBeginning bytes b → a ≡ b
  unbegun_one a b (inl is) (inl also) = is.0 ∙ sym also.0
  unbegun_one a b (inl is) (inr also) = absurd (is.1.0 also.1.0)
  unbegun_one a b (inr is) (inl also) = absurd (also.1.0 is.1.0)
  unbegun_one a b (inr is) (inr also) = is.0 ∙ sym also.0

  unbegun_first : (c e : Call) → Unbegun c → Found e → Same c e
  unbegun_first c e x (inl y) = both_quiet c e (unbegun_one c.result e.result x.why y.why) x.unwritten y.unwritten x.looks y.looks
  unbegun_first c e x (inr (inl y)) = absurd (no_text c y.begin y.lines x y.is)
  unbegun_first c e x (inr (inr (inl y))) = absurd (no_text c y.is.begin y.is.lines x y.is.is)
  unbegun_first c e x (inr (inr (inr y))) = absurd (no_text c y.is.begin y.is.lines x y.is.is)

  -- a file that begins otherwise than the input has no entry that the lines ask for
  pub not_otherwise : (c : Call) (begin : Start) (lines : List (List ℕ)) → Otherwise c → HasText bytes begin lines → ((v : Start) → BeginsSo held v → (¬ IsNewDisk held) → v ≡ begin) → ⊥
  not_otherwise c begin lines x has alike = x.differs (alike x.other x.so x.is_old ∙ sym (one_text one_beginning bytes x.begin begin x.lines lines x.is has).0)

  otherwise_first : (c e : Call) → Otherwise c → (Otherwise e ⊎ (AtEntry e ⊎ AtEnd e)) → Same c e
  otherwise_first c e x (inl y) = both_quiet c e (x.ends ∙ sym y.ends) x.unwritten y.unwritten x.looks y.looks
  otherwise_first c e x (inr (inl y)) = absurd (not_otherwise c y.is.begin y.is.lines x y.is.is (λ v so long. read_alike held v y.is.begin so y.is.pairs y.is.market y.is.place y.is.has))
  otherwise_first c e x (inr (inr y)) = absurd (not_otherwise c y.is.begin y.is.lines x y.is.is (of_alike held y.is.begin y.is.pairs y.is.file))

  -- a call that stopped
  entry_first : (c e : Call) → AtEntry c → (AtEntry e ⊎ AtEnd e) → Same c e
  entry_first c e x (inl y) =
      let (same, texts) = one_stop one_hearing one_wish one_beginning held bytes x.cause y.cause x.is y.is in
      both_told c e x.is.texts y.is.texts (x.ends ∙ ap (λ (cause : Cause). Err (fault_of cause)) same ∙ sym y.ends) texts x.gained y.gained (inl (x.looks, y.looks))
  entry_first c e x (inr y) = absurd (not_stopped one_hearing one_wish one_beginning held bytes x.cause x.is y.is)

  -- the end of the input
  far_one : (a b : Ended) → GoesSoFar limit all a → GoesSoFar limit all b → a ≡ b
  far_one a b (inl here) (inl there) = here.1 ∙ sym there.1
  far_one a b (inl here) (inr there) = absurd (omega (arith, here.0, there.0))
  far_one a b (inr here) (inl there) = absurd (omega (arith, here.0, there.0))
  far_one a b (inr here) (inr there) = here.1 ∙ sym there.1

  -- the files after two calls that answered all lines
  same_file : (start end other last : DiskState) (v w : Start) (p q : Entries) (m n : Market) → v ≡ w → p ≡ q → HasEntriesOf held v p m start end → HasEntriesOf held w q n other last → KeepAlike start end other last
  same_file start end other last v w p q m n same entries (inl (place, read)) (inl (at, also)) = inl (read.looks, also.looks)
  same_file start end other last v w p q m n same entries (inl (place, read)) (inr more) =
      absurd (only_looked held v p m n place last read.has (subst (λ (b : Start). HasMore held b p n last) (sym same) (subst (λ (l : Entries). HasMore held w l n last) (sym entries) more)))
  same_file start end other last v w p q m n same entries (inr more) (inl (at, also)) =
      absurd (only_looked held w q n m at end also.has (subst (λ (b : Start). HasMore held b q m end) same (subst (λ (l : Entries). HasMore held v l m end) entries more)))
  same_file start end other last v w p q m n same entries (inr more) (inr others) =
      inr (w, q, subst (λ (b : Start). KeepsJust end b q) same (subst (λ (l : Entries). KeepsJust end v l) entries more.keeps), others.keeps)

  end_one : (c e : Call) → AtEnd c → AtEnd e → Same c e
  end_one c e x y =
      let (begins, entries, texts) = one_answer one_hearing one_wish one_beginning held bytes x.is y.is in
      both_told c e x.is.texts y.is.texts (far_one c.result e.result x.ends y.ends) texts x.gained y.gained
      (same_file c.start c.end e.start e.end x.is.begin y.is.begin x.is.pairs y.is.pairs x.is.market y.is.market begins entries x.file y.file)

  found_one : (c e : Call) → Found c → Found e → Same c e
  found_one c e (inl x) y = unbegun_first c e x y
  found_one c e (inr x) (inl y) = turned e c (unbegun_first e c y (inr x))
  found_one c e (inr (inl x)) (inr y) = otherwise_first c e x y
  found_one c e (inr (inr x)) (inr (inl y)) = turned e c (otherwise_first e c y (inr x))
  found_one c e (inr (inr (inl x))) (inr (inr y)) = entry_first c e x y
  found_one c e (inr (inr (inr x))) (inr (inr (inl y))) = turned e c (entry_first e c y (inr x))
  found_one c e (inr (inr (inr x))) (inr (inr (inr y))) = end_one c e x y

  call_one : (c e : Call) → Refuses c → Refuses e → Refused c ⊎ Found c → Refused e ⊎ Found e → Same c e
  call_one c e refuses also (inl x) (inl y) = both_quiet c e (refused_opening c e.result y.opens x y.is y.named) (refuses x.none).1 (also x.none).1 x.looks y.looks
  call_one c e refuses also (inl x) (inr y) = refused_first c e x refuses also y
  call_one c e refuses also (inr x) (inl y) = turned e c (refused_first e c y also refuses x)
  call_one c e refuses also (inr x) (inr y) = found_one c e x y

-- ---- what a call resulted in

module _ (limit : ℕ) (held bytes : List ℕ) (start end : DiskState) (out later : Output) (told : start.content ≡ Some held) where
  abbrev pub within : List ℕ
  within = take limit bytes

  abbrev pub call : Ended → Call
  call result = record { result = result; start = start; end = end; out = out; later = later }

  abbrev pub Came : Ended → Type 0
  Came result = IsRefused held (call result) ⊎ (IsUnbegun within (call result) ⊎ (IsOtherwise held within (call result) ⊎ (IsAtEntry held within (call result) ⊎ IsEnd limit held bytes within (call result))))

  answered : (Are : Start → List (List ℕ) → Type 0) → ((begin : Start) (lines : List (List ℕ)) → Are begin lines → HasAllLines within begin lines) → HasAnswered Are held start end out later → IsAnswered held within
  answered Are lines x = record {
    begin = x.begin;
    lines = x.lines;
    is = text_all within x.begin x.lines (lines x.begin x.lines x.are);
    pairs = x.pairs;
    texts = x.texts;
    market = x.market;
    desks = x.desks;
    hosted = x.hosted;
    file = are_of held x.begin x.pairs x.market start end x.file;
  }

  at_entry : (cause : Cause) → StopsAtEntry limit held (Some bytes) start end out later (Why held cause) → Came (Err (fault_of cause))
  unfolding stopped
  at_entry cause s = inr (inr (inr (inl (record { cause = cause; ends = refl; is = stopped limit held bytes start end out later cause s; gained = s.gained; looks = s.file.looks }))))

  pub came : (left : Option (List ℕ)) (result : Ended) → (¬ IsFailure result) → ComesTo limit held (Some bytes) left start end out later result → Came result
  unfolding answered
  came left (Ok done) fine x =
      let few : length bytes ≤ limit = x.0.are.1 in
      let whole : bytes ≡ within = sym (take_all limit bytes few) in
      inr (inr (inr (inr (record {
        is = answered (λ begin lines. HasAllLines bytes begin lines × (length bytes ≤ limit)) (λ begin lines are. subst (λ (l : List ℕ). HasAllLines l begin lines) whole are.0) x.0;
        gained = x.0.gained;
        file = x.0.file;
        ends = inl (few, refl);
      }))))
  came left (Err TooLong) fine x =
      inr (inr (inr (inr (record {
        is = answered (λ begin lines. HasAllLines within begin lines × (limit < length bytes)) (λ begin lines are. are.0) x;
        gained = x.gained;
        file = x.file;
        ends = inr (x.are.1, refl);
      }))))
  came left (Err NotFlow) fine (not, (looks, wrote)) = inr (inl (record { why = inl (refl, begins_neither limit bytes left not); unwritten = wrote; looks = looks }))
  came left (Err BadCheckpoint) fine (not, (looks, wrote)) = inr (inl (record { why = inr (refl, begins_unsound limit bytes left not); unwritten = wrote; looks = looks }))
  came left (Err NotDisk) fine (is, (looks, wrote)) = inl (record { none = inl is; opens = Foreign; is = is; named = refl; looks = looks })
  came left (Err (Damaged place)) fine (inl (is, first, (looks, wrote))) =
      inl (record { none = inr (subst (λ (k : ℕ). IsOpening held (opening.Damaged k)) first is); opens = opening.Damaged place; is = is; named = refl; looks = looks })
  came left (Err (Damaged place)) fine (inr x) = at_entry (AtDamage place) x
  came left (Err (Rejected number)) fine x = at_entry (AtInvalid number) x
  came left (Err (Differs number)) fine (inl (none, (looks, wrote), begin, are, differs)) =
      let text = text_first within begin [] are in
      let (other, so, not, long) = otherwise_begins held begin start end told looks differs in
      inr (inr (inl (record {
        ends = ap (λ (k : ℕ). Err (Differs k)) none;
        unwritten = wrote;
        looks = looks;
        begin = begin;
        lines = text.0;
        is = text.1;
        other = other;
        so = so;
        differs = not;
        is_old = long;
      })))
  came left (Err (Differs number)) fine (inr x) = at_entry (AtOther number) x
  came left (Err Read) fine x = absurd (fine (inl refl))
  came left (Err Write) fine x = absurd (fine (inr (inl refl)))
  came left (Err Disk) fine x = absurd (fine (inr (inr (inl refl))))
  came left (Err Memory) fine x = absurd (fine (inr (inr (inr refl))))

pub one_hosted_output : OneHearing → OneWish → OneBeginning → (start end other last : DiskState) → OneHostedOutput start end other last
one_hosted_output one_hearing one_wish one_beginning start end other last limit held bytes left rest out later before after a b fine well x y =
    call_one one_hearing one_wish one_beginning limit held bytes (take limit bytes) (record { result = a; start = start; end = end; out = out; later = later }) (record { result = b; start = other; end = last; out = before; later = after }) x.refuses y.refuses
    (came limit held bytes start end out later x.told left a fine x.comes) (came limit held bytes other last before after y.told rest b well y.comes)
