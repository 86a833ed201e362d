-- A command that was taken from its entry in the file, and a file that has no more.
use Rattle.std.proofs.Common.{◌≡◌, ◌⊎◌, inl, inr, ℕ, ◌+◌, List, [], ◌∷◌, ◌++◌, Option, Some, None, Result, Err, false, IfSome, length, map, refl, sym, ap, subst, ◌∙◌, arith}
use Rattle.std.specs.Prelude.{⊤}
use Rattle.std.proofs.lemmas.List.{append-nil, map-append}
use Rattle.std.proofs.lemmas.List.Elements.{All-nil, All-cons, All-append}
use Rattle.wire_records.specs.Records.{Record, IsRecord, most_body}
use Rattle.wire_records.specs.Commands.{Command, Pair}
use Rattle.wire_records.specs.Versions.{IsReadAs}
use Rattle.wire_records.proofs.Readings.{reading_unique}
use Rattle.flow_orders.specs.Outcomes.{Outcome, IsAdmissibleOutcome}
use Rattle.canonical_rule.specs.Canonical.{IsCanonicalOutcome}
use Rattle.journal_records.specs.Pairs.{IsPair}
use Rattle.journal_records.specs.Replies.{EncodesAnswer, answer_record, most_reply_body}
use Rattle.journal_records.specs.Formats.{records_of}
use Rattle.market_rules.specs.Market.{Market}
use Rattle.market_rules.specs.Journal.{Step}
use Rattle.market_rules.proofs.OneJournal.{follows-append}
use Rattle.market_history.specs.Histories.{Start, market_of}
use Rattle.answer_text.specs.declared.header.Recipient.{Recipient}
use Rattle.disk_edge.specs.Disks.{DiskState, IsDisk, AtEachMoment}
use Rattle.journal_disk.specs.Pairs.{RecordPair, IsRecordPair, pair_bytes}
use Rattle.journal_disk.specs.Entries.{Holds}
use Rattle.journal_disk.specs.Ahead.{AheadState, IsPiece}
use Rattle.journal_disk.specs.Looking.{OnlyLooks}
use Rattle.journal_disk.specs.Stepping.{HasEntryAt, StatesAt, IsClosedAt, FindsNone}
use Rattle.journal_disk.specs.declared.fault.DiskFault.{DiskFault}
use Rattle.journal_disk.specs.declared.fault.DiskFault.TheVariants as disk_fault
use Rattle.journal_disk.proofs.GoingOn.{entry_holds}
use Rattle.journal_keeping.specs.Starts.{head_of}
use Rattle.journal_keeping.specs.Keeping.{IsKeptJournal, HoldsLegal}
use Rattle.journal_keeping.specs.Beginning.{WhileOpening}
use Rattle.journal_keeping.proofs.Begun.{looks_alone}
use Rattle.desk_session.specs.States.{State, Answers, IsUntouched}
use Rattle.desk_opening.specs.Books.{FindsOne, EndsFinding, LeavesThese, IsFoundBy, IsNotFoundBy, IsReadAlong, GetsMore}
use Rattle.desk_opening.specs.declared.book.Book.{Book}
use Rattle.desk_opening.specs.declared.book.Book.TheVariants.{Kept, Open}
use Rattle.desk_opening.proofs.Along.{found_along, ends_along, cutting}
use Rattle.desk_keeping.specs.Faults.{of_disk}
use Rattle.desk_keeping.specs.Hosting.{Entries}
use Rattle.desk_keeping.specs.declared.fault.HostFault.{HostFault}
use Rattle.desk_keeping.specs.declared.fault.HostFault.TheVariants as host
use Rattle.desk_keeping.specs.Private.{HostState, stored, ReadsOn, ReadsUp, FileGoes, IsLeftAlone, LeavesFile, StaysAside, ServesOne, IsOpen, IsEntryOf, TakesEntry, LeavesEntry, MakesAtEnd, StopsAt, WhyNot, BreaksOne, Replays, AnswersOne}
use Rattle.desk_keeping.proofs.KeepingNone.{none_closed, looked_alone}
use Rattle.desk_keeping.proofs.Files.{moved, goes_more, makes_one, leaves_goes}

-- ---- a file that has no more entries

none_at : (place later : ℕ) (ahead : AheadState) (disk now : DiskState) (m : Market) → later ≡ place → IsDisk disk → EndsFinding place disk now → ReadsUp place later ahead disk now m [] m
none_at place later ahead disk now m same is_disk ends begin pairs along =
    subst (λ (x : ℕ). GetsMore begin x disk now (pairs ++ []) m) (sym same)
    (subst (λ (l : Entries). GetsMore begin place disk now l m) (sym (append-nil pairs)) (ends_along begin disk disk pairs m place ahead along now ends))

pub none_goes : (b n : Book) (disk now : DiskState) (Same : Type 0) (m : Market) → IsDisk disk → ((place : ℕ) → b ≡ Open place → (n ≡ b) × Same) → IsFoundBy b n disk now None → IsOpen n × FileGoes b n disk now Same m [] [] m
none_goes (Kept place ahead) (Open later) disk now Same m is_disk still found = (tt, (m, none_at place later ahead disk now m found.0 is_disk found.1, refl, All-nil IsPair))
none_goes (Kept place ahead) (Kept later next) disk now Same m is_disk still found = absurd found
none_goes (Open place) (Open later) disk now Same m is_disk still found = (tt, (refl, opened_place place later (still place refl).0, (still place refl).1, refl, All-nil IsPair))
  where
    opened_place : (p q : ℕ) → Open q ≡ Open p → q ≡ p
    opened_place p q e = cc
none_goes (Open place) (Kept later next) disk now Same m is_disk still found = absurd (let e = found in cc)

-- ---- nothing was found

pub leaves_found : (b : Book) (disk now : DiskState) (Same : Type 0) (m : Market) (fault : DiskFault) → IsNotFoundBy b disk now fault → LeavesFile b disk now Same m
leaves_found (Kept place ahead) disk now Same m fault nothing = λ begin pairs along. ((λ was legal k holds. by_left begin pairs along was legal k holds nothing.left), alone begin pairs along nothing.left)
  where
    by_left : (begin : Start) (pairs : Entries) → IsReadAlong begin place ahead disk disk pairs m → (was : Start) (legal : Entries) (k : Market) → HoldsLegal disk was legal k
        → OnlyLooks disk now ⊎ (IfSome disk.content (IsClosedAt place) × LeavesThese place disk now) → AtEachMoment disk now (WhileOpening begin disk legal)
    by_left begin pairs along was legal k holds (inl looks) = looks_alone begin legal disk now looks
    by_left begin pairs along was legal k holds (inr (closed, leaves)) = cutting begin disk disk pairs m place ahead along closed now leaves was legal k holds

    alone : (begin : Start) (pairs : Entries) → IsReadAlong begin place ahead disk disk pairs m → OnlyLooks disk now ⊎ (IfSome disk.content (IsClosedAt place) × LeavesThese place disk now) → IsLeftAlone disk now
    alone begin pairs along (inl looks) = looked_alone disk now looks
    alone begin pairs along (inr (closed, leaves)) = none_closed begin place ahead disk pairs m along closed (OnlyLooks disk now)
leaves_found (Open place) disk now Same m fault nothing = absurd nothing

-- it stopped at damage
damaged_why : (content : Option (List ℕ)) (place at number : ℕ) (m : Market) (next : List Command) → IfSome content (FindsNone (disk_fault.Damaged at) place) → IfSome content (WhyNot (host.Damaged at) number m next place)
damaged_why None place at number m next why = tt
damaged_why (Some bytes) place at number m next why = (sym why.0, why.1)

pub breaks_found : (h n : HostState) (command : Command) (disk now : DiskState) (Same : Type 0) (fault : DiskFault) → IsNotFoundBy h.book disk now fault
    → n.session ≡ h.session → n.fresh ≡ h.fresh → StaysAside h n → BreaksOne (of_disk fault) command h n disk now Same
breaks_found h n command disk now Same disk_fault.Failed nothing session fresh aside = leaves_found h.book disk now Same h.session.market disk_fault.Failed nothing
breaks_found h n command disk now Same disk_fault.Memory nothing session fresh aside = leaves_found h.book disk now Same h.session.market disk_fault.Memory nothing
breaks_found h n command disk now Same disk_fault.NotDisk nothing session fresh aside = absurd (not_known h.book nothing)
  where
    not_known : (b : Book) → IsNotFoundBy b disk now disk_fault.NotDisk → ⊥
    not_known (Kept place ahead) it = it.known refl
    not_known (Open place) it = it
breaks_found h n command disk now Same (disk_fault.Damaged at) nothing session fresh aside = by_book h.book refl nothing
  where
    by_book : (b : Book) → h.book ≡ b → IsNotFoundBy b disk now (disk_fault.Damaged at) → StopsAt h n disk now (WhyNot (host.Damaged at) (h.session.entries + 1) h.session.market (command ∷ []))
    by_book (Open place) is it = absurd it
    by_book (Kept place ahead) is it = record {
      place = place;
      ahead = ahead;
      book = is;
      looks = it.damaged at refl;
      why = damaged_why disk.content place at (h.session.entries + 1) h.session.market (command ∷ []) it.why;
      market = ap (λ (s : State). s.market) session;
      talk = ap (λ (s : State). s.talk) session;
      entries = ap (λ (s : State). s.entries) session;
      fresh = fresh;
      aside = aside;
    }

-- ---- an entry that was found

-- what is known of a content by two facts
both_known : (content : Option (List ℕ)) (P Q R : List ℕ → Type 0) → ((bytes : List ℕ) → P bytes → Q bytes → R bytes) → IfSome content P → IfSome content Q → IfSome content R
both_known None P Q R f p q = tt
both_known (Some bytes) P Q R f p q = f bytes p q

-- the entry is in the file
there_at : (place count : ℕ) (next : AheadState) (disk now : DiskState) (pair : RecordPair) → FindsOne place count next disk now → IsEntryOf next place count pair → IfSome disk.content (λ bytes. (rest : List ℕ) × HasEntryAt place pair rest bytes)
there_at place count next disk now pair found there =
    both_known disk.content (IsPiece next) (StatesAt place count) (λ bytes. (rest : List ℕ) × HasEntryAt place pair rest bytes) there.2
    (moved now.content disk.content (IsPiece next) (sym found.looks.content) found.piece) found.states

over : (o : Option (List ℕ)) (P Q : List ℕ → Type 0) → ((bytes : List ℕ) → P bytes → Q bytes) → IfSome o P → IfSome o Q
over None P Q f p = tt
over (Some bytes) P Q f p = f bytes p

-- one entry more was read
module _ (begin : Start) (place later count : ℕ) (next : AheadState) (start now : DiskState) (pairs : Entries) (m n : Market) (along : IsReadAlong begin place next start now pairs m) (held : RecordPair) (pair : Pair Record Outcome)
    (lawful : IsRecordPair held) (size : length (pair_bytes held) ≡ count) (asked : held.0 ≡ pair.asked) (answered : EncodesAnswer held.1 pair.answer) (step : Step IsReadAs IsAdmissibleOutcome m pair.asked pair.answer n) (moves : later ≡ place + (5 + count)) where
  same_pair : records_of pair ≡ held
  same_pair = ap (λ (r : Record). (r, answer_record pair.answer)) (sym asked) ∙ ap (λ (r : Record). (held.0, r)) (sym answered.encoded)

  fits : IsPair pair
  fits = record {
    asked = subst (λ (r : Record). IsRecord most_body r) asked lawful.0;
    answer = answered.fits;
    answered = subst (λ (r : Record). IsRecord most_reply_body r) answered.encoded lawful.1;
  }

  journal_more : IsKeptJournal begin (pairs ++ pair ∷ []) n
  journal_more = record {
    starts = along.journal.starts;
    each = All-append IsPair pairs (pair ∷ []) along.journal.each (All-cons IsPair pair [] fits (All-nil IsPair));
    steps = follows-append IsReadAs reading_unique IsAdmissibleOutcome (market_of begin) m n pairs (pair ∷ []) along.journal.steps (n, step, refl);
  }

  abbrev IsHeld : Type 0
  IsHeld = (left : List ℕ) × Holds (head_of begin) (map records_of pairs) place left now

  abbrev IsHeldMore : Type 0
  IsHeldMore = (left : List ℕ) × Holds (head_of begin) (map records_of (pairs ++ pair ∷ [])) later left now

  held_more : IfSome now.content (λ bytes. (rest : List ℕ) × HasEntryAt place held rest bytes) → (o : Option (List ℕ)) → IfSome o (λ _. IsHeld) → IfSome o (λ _. IsHeldMore)
  held_more stands None h = tt
  held_more stands (Some bytes) h =
      let more = entry_holds (head_of begin) (map records_of pairs) place h.0 now h.1 held later stands (omega (arith, moves, size)) in
      let same : map records_of pairs ++ held ∷ [] ≡ map records_of (pairs ++ pair ∷ []) = ap (λ (r : RecordPair). map records_of pairs ++ r ∷ []) (sym same_pair) ∙ sym (map-append records_of pairs (pair ∷ [])) in
      (more.0, subst (λ (l : List RecordPair). Holds (head_of begin) l later more.0 now) same more.1)

  pub one_read_more : IfSome now.content (λ bytes. (rest : List ℕ) × HasEntryAt place held rest bytes) → IsReadAlong begin later next start now (pairs ++ pair ∷ []) n
  one_read_more stands = record {
    journal = journal_more;
    looks = along.looks;
    known = along.known;
    piece = along.piece;
    holds = held_more stands now.content along.holds;
  }

-- the entry that was found was taken for a command
pub takes_found : (b : Book) (place later count : ℕ) (next : AheadState) (disk now : DiskState) (Same : Type 0) (s t : State) (sender : Recipient) (line : ℕ) (command : Command) → IsFoundBy b (Kept place next) disk now (Some count)
    → (takes : TakesEntry sender line command s t place later count next) → FileGoes b (Kept later next) disk now Same s.market (takes.pair ∷ []) [] t.market
takes_found (Open p) place later count next disk now Same s t sender line command found takes = absurd found
takes_found (Kept p ahead) place later count next disk now Same s t sender line command found takes = (refl, reads)
  where
    reads : ReadsOn p later ahead next disk now s.market (takes.pair ∷ []) t.market
    reads begin pairs along =
        let one = subst (λ (x : ℕ). FindsOne x count next disk now) (sym found.0) found.1 in
        let at = subst (λ (x : ℕ). IsReadAlong begin x next disk now pairs s.market) (sym found.0) (found_along begin disk disk pairs s.market p ahead along count next now found.1) in
        one_read_more begin place later count next disk now pairs s.market t.market at takes.held takes.pair takes.there.0 takes.there.1 takes.asked takes.answered takes.answers.step takes.moves
        (moved disk.content now.content (λ bytes. (rest : List ℕ) × HasEntryAt place takes.held rest bytes) one.looks.content (there_at place count next disk now takes.held one takes.there))

-- ---- an entry that wasn't taken

module _ (h n : HostState) (command : Command) (disk now : DiskState) (Same : Type 0) (place count : ℕ) (next : AheadState) (found : IsFoundBy h.book (Kept place next) disk now (Some count)) (t : State) (session : n.session ≡ t) (fresh : n.fresh ≡ h.fresh)
    (aside : StaysAside h n) where
  stops_at : (Why : (place : ℕ) → List ℕ → Type 0) → IsUntouched h.session t → (FindsOne place count next disk now → IfSome disk.content (Why place)) → (b : Book) → h.book ≡ b → IsFoundBy b (Kept place next) disk now (Some count) → StopsAt h n disk now Why
  stops_at Why same why (Open p) is it = absurd it
  stops_at Why same why (Kept p ahead) is it =
      let one = subst (λ (x : ℕ). FindsOne x count next disk now) (sym it.0) it.1 in
      record {
        place = place;
        ahead = ahead;
        book = is ∙ ap (λ (x : ℕ). Kept x ahead) (sym it.0);
        looks = one.looks;
        why = why one;
        market = ap (λ (s : State). s.market) session ∙ same.market;
        talk = ap (λ (s : State). s.talk) session ∙ same.talk;
        entries = ap (λ (s : State). s.entries) session ∙ same.entries;
        fresh = fresh;
        aside = aside;
      }

  leaves_all : (b : Book) → IsFoundBy b (Kept place next) disk now (Some count) → LeavesFile b disk now Same h.session.market
  leaves_all (Open p) it = absurd it
  leaves_all (Kept p ahead) it = λ begin pairs along. ((λ was legal k holds. looks_alone begin legal disk now it.1.looks), looked_alone disk now it.1.looks)

  pub breaks_taken : (fault : HostFault) → LeavesEntry fault command h.session t place count next → BreaksOne fault command h n disk now Same
  breaks_taken host.Memory why = leaves_all h.book found
  breaks_taken (host.Damaged at) why =
      stops_at (WhyNot (host.Damaged at) (h.session.entries + 1) h.session.market (command ∷ [])) why.2
      (λ one. both_known disk.content (IsPiece next) (StatesAt place count) _ (λ bytes piece states. (sym why.0, why.1 bytes piece states)) (moved now.content disk.content (IsPiece next) (sym one.looks.content) one.piece) one.states) h.book refl found
  breaks_taken (host.Rejected number) why =
      stops_at (WhyNot (host.Rejected number) (h.session.entries + 1) h.session.market (command ∷ [])) why.4
      (λ one. over disk.content _ _ (λ bytes has. (why.0, (why.1, has.0, has.1, why.3))) (there_at place count next disk now why.1 one why.2)) h.book refl found
  breaks_taken (host.Differs number) why =
      stops_at (WhyNot (host.Differs number) (h.session.entries + 1) h.session.market (command ∷ [])) why.5
      (λ one. over disk.content _ _ (λ bytes has. (why.0, (why.1, has.0, has.1, why.3, why.4))) (there_at place count next disk now why.1 one why.2)) h.book refl found
  breaks_taken host.Read why = absurd why
  breaks_taken host.Write why = absurd why
  breaks_taken host.Disk why = absurd why
  breaks_taken host.NotDisk why = absurd why
  breaks_taken host.NotFlow why = absurd why
  breaks_taken host.BadCheckpoint why = absurd why
  breaks_taken host.TooLong why = absurd why

-- ---- a command, in the end

aside_more : (h m n : HostState) → StaysAside h m → StaysAside m n → StaysAside h n
aside_more h m n one two = record { group = two.group ∙ one.group; told = two.told ∙ one.told; written = two.written ∙ one.written }

-- an entry that is made is one
makes_end : (b c : Book) (pair : Pair Record Outcome) → MakesAtEnd b c (pair ∷ [])
makes_end (Kept place ahead) (Open later) pair = omega arith
makes_end (Kept place ahead) (Kept later next) pair = tt
makes_end (Open place) c pair = tt

-- one that is taken from the file doesn't end it
pub takes_none : (b : Book) (later : ℕ) (next : AheadState) → MakesAtEnd b (Kept later next) []
takes_none (Kept place ahead) later next = tt
takes_none (Open place) later next = tt

-- there was no entry for it, and it was served
pub answers_served : (sender : Recipient) (line : ℕ) (command : Command) (h m n : HostState) (disk now : DiskState) (Same : Type 0) → IsDisk now → Replays false sender line command h m disk now Same → ServesOne sender line command m n → n.book ≡ m.book
    → AnswersOne sender line command h n disk now Same
answers_served sender line command h m n disk now Same is_disk (session, opens, goes, fresh, aside) one book = record {
  pair = one.pair;
  taken = [];
  made = one.pair ∷ [];
  one = refl;
  answers = subst (λ (s : State). Answers IsAdmissibleOutcome s sender line command one.pair n.session) session one.answers;
  goes = subst (λ (b : Book). FileGoes h.book b disk now Same h.session.market [] (one.pair ∷ []) n.session.market) (sym book)
      (goes_more disk now now is_disk h.session.market h.session.market Same ⊤ Same (λ same done. same) (λ done P is. is) n.session.market [] [] [] (one.pair ∷ []) h.book m.book m.book goes
      (makes_one m.book now h.session.market n.session.market one.pair opens (subst (λ (s : State). Step IsReadAs IsCanonicalOutcome s.market one.pair.asked one.pair.answer n.session.market) session one.serves.answers.step) one.serves.fits));
  fresh = one.fresh ∙ ap (λ (l : List ℕ). l ++ stored (one.pair ∷ [])) fresh;
  more = makes_end h.book n.book one.pair;
  aside = aside_more h m n aside one.aside;
}

same_error : {T : Type 0} (f k : HostFault) → ◌≡◌ {A = Result T HostFault} (Err f) (Err k) → f ≡ k
same_error f k e = cc

-- there was none, and memory ran out
pub breaks_served : {T : Type 0} (sender : Recipient) (line : ℕ) (command : Command) (h m n : HostState) (disk now : DiskState) (Same : Type 0) (fault : HostFault) → Replays false sender line command h m disk now Same → ◌≡◌ {A = Result T HostFault} (Err fault) (Err host.Memory)
    → BreaksOne fault command h n disk now Same
breaks_served sender line command h m n disk now Same fault replays is =
    subst (λ (f : HostFault). BreaksOne f command h n disk now Same) (sym (same_error fault host.Memory is))
    (leaves_goes h.book m.book disk now Same h.session.market h.session.market [] [] replays.1 replays.2)
