-- Hosting that ends before its first line: the file or the input wasn't opened, or no session was made.
use Rattle.std.proofs.Common.{◌≡◌, ◌⊎◌, inl, inr, ℕ, ◌+◌, ◌-◌, ◌≤◌, List, [], ◌++◌, length-append, Option, Some, None, IfSome, Result, Ok, Err, length, take, refl, sym, ap, subst, ◌∙◌, arith, append_assoc}
use Rattle.std.proofs.lemmas.List.Elements.{All-nil}
use Rattle.std.proofs.Math.Seq.{take-append-add}
use Rattle.flow_io.specs.Streams.{Takes}
use Rattle.flow_io.specs.Windows.{WindowState}
use Rattle.flow_orders.specs.Outcomes.{IsAdmissibleOutcome}
use Rattle.line_records.specs.Lines.{HasNoFeed}
use Rattle.market_rules.specs.Market.{Market}
use Rattle.market_history.specs.Histories.{Start, market_of}
use Rattle.disk_edge.specs.Disks.{DiskState, IsDisk, AtEachMoment}
use Rattle.journal_disk.specs.Entries.{IsNewDisk, most_unkept}
use Rattle.journal_disk.specs.Looking.{OnlyLooks}
use Rattle.journal_keeping.specs.Keeping.{IsKeptJournal, HoldsLegal, Runs}
use Rattle.journal_keeping.specs.Beginning.{WhileOpening}
use Rattle.journal_keeping.specs.Openings.{IsOpening}
use Rattle.journal_keeping.specs.Openings as opening
use Rattle.journal_keeping.specs.Outputs.{Output}
use Rattle.journal_keeping.specs.declared.fault.OpenFault.{OpenFault}
use Rattle.journal_keeping.specs.declared.fault.OpenFault.TheVariants as unopened
use Rattle.journal_keeping.specs.declared.fault.InputFault.TheVariants as unread
use Rattle.journal_keeping.proofs.Auditing.{none_read}
use Rattle.journal_keeping.proofs.Begun.{looks_alone, new_again}
use Rattle.journal_keeping.proofs.Counts.{if_some}
use Rattle.journal_keeping.proofs.Gaining.{gains_none}
use Rattle.journal_keeping.proofs.Serving.{unbegun}
use Rattle.desk_session.proofs.Going.{first_all}
use Rattle.desk_opening.specs.declared.book.Book.{Book}
use Rattle.desk_opening.specs.declared.book.Book.TheVariants.{Kept, Open}
use Rattle.desk_opening.specs.declared.opening.StartFault.{StartFault}
use Rattle.desk_opening.specs.declared.opening.StartFault.TheVariants as start
use Rattle.desk_opening.specs.Beginnings.{bytes_before}
use Rattle.desk_opening.specs.Books.{IsBookAfter}
use Rattle.desk_opening.specs.Openings.{HasOpened, HasNotOpened, WasMaking, BeginsOtherwise, TakesBeginning, IsNoBook}
use Rattle.desk_keeping.specs.Faults.{of_start}
use Rattle.desk_keeping.specs.Hosting.{Entries, desks_of, AreFirstHosted, HasFirstLines, IsAsBefore, ComesTo, HasTakenBeginning, IsMadeAfterBeginning, IsOfFile, HostsIn}
use Rattle.desk_keeping.specs.Private.{IsLeftAlone}
use Rattle.desk_keeping.proofs.KeepingNone.{none_continued, looked_alone}
use Rattle.desk_keeping.proofs.Leaving.{continued_old}
use Rattle.desk_keeping.proofs.Whole.{whole_opened}
use Rattle.desk_keeping.proofs.Ending.{AreFirst, begins_as}

-- what was taken of an input whose bytes are known
pub of_known : (content left : Option (List ℕ)) (taken : List ℕ) → Takes content left taken → (P : List ℕ → Type 0) → ((bytes after : List ℕ) → left ≡ Some after → bytes ≡ taken ++ after → P bytes) → IfSome content P
of_known None left taken takes P f = tt
of_known (Some bytes) None taken takes P f = absurd takes
of_known (Some bytes) (Some after) taken takes P f = f bytes after refl takes

-- the first bytes within the limit
pub take_taken : (limit : ℕ) (bytes taken after : List ℕ) → bytes ≡ taken ++ after → length taken ≤ limit → take limit bytes ≡ taken ++ take (limit - length taken) after
take_taken limit bytes taken after is few =
    let spare : limit ≡ length taken + (limit - length taken) = omega (arith, few) in
    ap (take limit) is ∙ ap (λ (n : ℕ). take n (taken ++ after)) spare ∙ take-append-add taken after (limit - length taken)

-- the beginning of the input was taken, within the limit
begins_input : (limit : ℕ) (content left : Option (List ℕ)) (begin : Start) → TakesBeginning limit begin content left → IfSome content (λ bytes. HasFirstLines (take limit bytes) begin [])
begins_input limit content left begin (starts, taken, takes, few) = of_known content left (bytes_before begin ++ taken) takes (λ bytes. HasFirstLines (take limit bytes) begin []) by
  where
    by : (bytes after : List ℕ) → left ≡ Some after → bytes ≡ (bytes_before begin ++ taken) ++ after → HasFirstLines (take limit bytes) begin []
    by bytes after so is = (
      take (limit - length (bytes_before begin)) (taken ++ after),
      record { starts = starts; pieces = All-nil HasNoFeed; whole = take_taken limit bytes (bytes_before begin) (taken ++ after) (is ∙ append_assoc (bytes_before begin) taken after) (omega (arith, few, length-append (bytes_before begin) taken)) },
    )

module _ (limit : ℕ) (content : Option (List ℕ)) (was : Start) (first : DiskState) (old : Entries) (m : Market) (holds : HoldsLegal first was old m) (now : DiskState) (is_disk : IsDisk now) (out : Output) where
  -- no line was heard, and nothing was added
  hosts_none : (Cut : Type 0) (begin : Start) (from : Market) → ((begin ≡ was) × (from ≡ m)) ⊎ (IfSome first.content IsNewDisk × (from ≡ market_of begin) × AreFirst limit content begin []) → Runs most_unkept begin first now old from [] 0
      → AtEachMoment first now (WhileOpening begin first old) → HostsIn limit content Cut was first now old m out out
  hosts_none Cut begin from continues runs opens =
      let none : AreFirstHosted begin [] [] [] = first_all IsAdmissibleOutcome (market_of begin) (market_of begin) (desks_of begin) (desks_of begin) 0 [] [] [] [] (refl, refl, refl, refl) in
      record {
        begin = begin;
        from = from;
        continues = continues;
        new = [];
        acknowledged = 0;
        runs = runs;
        lines = [];
        are = inl refl;
        pairs = [];
        texts = [];
        asked = none;
        whole = whole_opened begin first [] now old opens;
        parts = inr (refl, old, refl);
        count = 0;
        within = omega arith;
        durable = λ image left. inl refl;
        lag = inr (omega arith);
        told = [];
        answered = none;
        gained = gains_none Cut out;
      }

  -- the file was only looked at
  hosts_looked : (Cut : Type 0) → OnlyLooks first now → HostsIn limit content Cut was first now old m out out
  hosts_looked Cut looks = hosts_none Cut was m (inl (refl, refl)) (unbegun was most_unkept first now old m holds.journal is_disk (looks_alone was old first now looks)) (looks_alone was old first now looks)

  -- a new file was being made
  hosts_making : (Cut : Type 0) (begin : Start) (rest : Option (List ℕ)) → TakesBeginning limit begin content rest → WasMaking begin first now → HostsIn limit content Cut was first now old m out out
  hosts_making Cut begin rest takes making =
      let is_new : IsOpening holds.bytes opening.New = subst (λ (o : Option (List ℕ)). IfSome o (λ held. IsOpening held opening.New)) holds.told making.is_new in
      let none = new_again first was old m holds holds.bytes holds.told is_new.0 in
      let journal : IsKeptJournal begin old (market_of begin) = subst (λ (l : Entries). IsKeptJournal begin l (market_of begin)) (sym none) (none_read begin (market_of begin) takes.0 refl) in
      hosts_none Cut begin (market_of begin) (inr (subst (λ (o : Option (List ℕ)). IfSome o IsNewDisk) (sym holds.told) is_new.0, refl, begins_input limit content rest begin takes))
      (unbegun begin most_unkept first now old (market_of begin) journal is_disk (making.moments was old m holds)) (making.moments was old m holds)

  -- the file and the input weren't opened
  pub hosts_not_opened : (Cut : Type 0) (rest : Option (List ℕ)) (fault : StartFault) → HasNotOpened limit first now content rest fault → HostsIn limit content Cut was first now old m out out
  hosts_not_opened Cut rest (start.Open fault) (why, looks) = hosts_looked Cut looks
  hosts_not_opened Cut rest (start.Input fault) (why, looks) = hosts_looked Cut looks
  hosts_not_opened Cut rest start.Differs (looks, begin, takes, otherwise) = hosts_looked Cut looks
  hosts_not_opened Cut rest start.Make (begin, takes, making) = hosts_making Cut begin rest takes making

  -- they were, and no session was made
  pub hosts_opened : (Cut : Type 0) (most : ℕ) (market : Market) (book : Book) (window : WindowState) (rest : Option (List ℕ)) → HasOpened most limit first now market book window content rest → HostsIn limit content Cut was first now old m out out
  hosts_opened Cut most market book window rest opened = by book opened.file
    where
      by : (b : Book) → IsBookAfter opened.begin b first now [] market → HostsIn limit content Cut was first now old m out out
      by (Kept place ahead) along = hosts_looked Cut along.looks
      by (Open place) gets =
          let is = continued_old opened.begin was first old m holds [] market gets.continues in
          let journal : IsKeptJournal opened.begin old market = subst (λ (l : Entries). IsKeptJournal opened.begin l market) (sym is.0) gets.journal in
          let few : length (bytes_before opened.begin ++ window.held) ≤ limit = omega (arith, length-append (bytes_before opened.begin) window.held, opened.place, opened.is_open.within, opened.limited) in
          let begins = begins_input limit content rest opened.begin (opened.starts, window.held, opened.takes, few) in
          hosts_none Cut opened.begin market (begins_as limit content opened.begin was first market m begins is.1) (unbegun opened.begin most_unkept first now old market journal is_disk (gets.moments was old m holds)) (gets.moments was old m holds)

-- ---- a file that keeps no valid journal

-- the file and the input weren't opened
pub alone_not_opened : (limit : ℕ) (first now : DiskState) (before after : Option (List ℕ)) (fault : StartFault) → HasNotOpened limit first now before after fault → IsLeftAlone first now
alone_not_opened limit first now before after (start.Open fault) (why, looks) = looked_alone first now looks
alone_not_opened limit first now before after (start.Input fault) (why, looks) = looked_alone first now looks
alone_not_opened limit first now before after start.Differs (looks, begin, takes, otherwise) = looked_alone first now looks
alone_not_opened limit first now before after start.Make (begin, takes, making) = if_some first.content _ _ (λ (held : List ℕ) is_new none. absurd (none.0 is_new)) making.is_new

-- they were, and no session was made
pub alone_opened : (most limit : ℕ) (first now : DiskState) (market : Market) (book : Book) (window : WindowState) (before after : Option (List ℕ)) → HasOpened most limit first now market book window before after → IsLeftAlone first now
alone_opened most limit first now market book window before after opened = by book opened.file
  where
    by : (b : Book) → IsBookAfter opened.begin b first now [] market → IsLeftAlone first now
    by (Kept place ahead) along = looked_alone first now along.looks
    by (Open place) gets = none_continued first.content opened.begin [] market (OnlyLooks first now) gets.continues

-- ---- a new file

-- the beginning of the input was taken
takes_begun : (limit : ℕ) (begin : Start) (before after : Option (List ℕ)) → TakesBeginning limit begin before after → HasTakenBeginning limit before after
takes_begun limit begin before after (starts, more, takes, few) = (begin, starts, omega (arith, few, length-append (bytes_before begin) more), more, takes)

pub made_begun : (limit : ℕ) (first now : DiskState) (before after : Option (List ℕ)) → HasTakenBeginning limit before after → IfSome first.content (λ held. IsMadeAfterBeginning limit held first now before after)
made_begun limit first now before after taken = by first.content
  where
    by : (o : Option (List ℕ)) → IfSome o (λ held. IsMadeAfterBeginning limit held first now before after)
    by None = tt
    by (Some held) = λ is_new. inr taken

made_looked : (limit : ℕ) (first now : DiskState) (before after : Option (List ℕ)) → OnlyLooks first now → IfSome first.content (λ held. IsMadeAfterBeginning limit held first now before after)
made_looked limit first now before after looks = by first.content
  where
    by : (o : Option (List ℕ)) → IfSome o (λ held. IsMadeAfterBeginning limit held first now before after)
    by None = tt
    by (Some held) = λ is_new. inl looks

-- the file and the input weren't opened
pub made_not_opened : (limit : ℕ) (first now : DiskState) (before after : Option (List ℕ)) (fault : StartFault) → HasNotOpened limit first now before after fault → IfSome first.content (λ held. IsMadeAfterBeginning limit held first now before after)
made_not_opened limit first now before after (start.Open fault) (why, looks) = made_looked limit first now before after looks
made_not_opened limit first now before after (start.Input fault) (why, looks) = made_looked limit first now before after looks
made_not_opened limit first now before after start.Differs (looks, begin, takes, otherwise) = made_looked limit first now before after looks
made_not_opened limit first now before after start.Make (begin, takes, making) = made_begun limit first now before after (takes_begun limit begin before after takes)

-- they were, and no session was made
pub made_opened : (most limit : ℕ) (first now : DiskState) (market : Market) (book : Book) (window : WindowState) (before after : Option (List ℕ)) → HasOpened most limit first now market book window before after
    → IfSome first.content (λ held. IsMadeAfterBeginning limit held first now before after)
made_opened most limit first now market book window before after opened =
    made_begun limit first now before after (opened.begin, opened.starts, omega (arith, opened.place, opened.is_open.within, opened.limited), window.held, opened.takes)

-- ---- what it comes to

module _ (limit : ℕ) (content left : Option (List ℕ)) (first now : DiskState) (held : List ℕ) (told : first.content ≡ Some held) (out : Output) where
  known_so : (P : List ℕ → Type 0) → IfSome first.content P → P held
  known_so P is = subst (λ (o : Option (List ℕ)). IfSome o P) told is

  as_before : OnlyLooks first now → IsAsBefore first now out out
  as_before looks = (looks, refl)

  shown_begun : (left ≡ content) ⊎ ((begin : Start) × TakesBeginning limit begin content left) → (left ≡ content) ⊎ HasTakenBeginning limit content left
  shown_begun (inl same) = inl same
  shown_begun (inr (begin, takes)) = inr (takes_begun limit begin content left takes)

  -- why nothing was hosted
  pub comes_not_opened : (fault : StartFault) → (fault ≡ start.Open unopened.Disk → (left ≡ content) ⊎ ((begin : Start) × TakesBeginning limit begin content left)) → HasNotOpened limit first now content left fault
      → ComesTo limit held content left first now out out (Err (of_start fault))
  comes_not_opened (start.Open unopened.Disk) shown not = (inl refl, shown_begun (shown refl))
  comes_not_opened (start.Open unopened.Memory) shown not = inl refl
  comes_not_opened (start.Open unopened.NotDisk) shown (why, looks) = (known_so (λ bytes. IsOpening bytes opening.Foreign) why, as_before looks)
  comes_not_opened (start.Open (unopened.Damaged place)) shown (why, looks) = inl (known_so (λ bytes. IsOpening bytes (opening.Damaged place)) why.0, why.1, as_before looks)
  comes_not_opened (start.Open (unopened.Rejected number)) shown (why, looks) = absurd why
  comes_not_opened (start.Input unread.Read) shown (why, looks) = inr (why, as_before looks)
  comes_not_opened (start.Input unread.Memory) shown not = inl refl
  comes_not_opened (start.Input unread.NotFlow) shown (why, looks) = (why, as_before looks)
  comes_not_opened (start.Input unread.BadCheckpoint) shown (why, looks) = (why, as_before looks)
  comes_not_opened start.Differs shown (looks, begin, takes, otherwise) =
      inl (refl, as_before looks, begin, begins_input limit content left begin takes, known_so (λ bytes. BeginsOtherwise begin bytes now) otherwise)
  comes_not_opened start.Make shown (begin, takes, making) = (inl refl, inr (takes_begun limit begin content left takes))

-- ---- a file that is refused by its bytes

same_start : {T : Type 0} (a b : StartFault) → ◌≡◌ {A = Result T StartFault} (Err a) (Err b) → a ≡ b
same_start a b e = cc

-- it ends at the opening of the file
of_file : (limit : ℕ) (first now : DiskState) (before after : Option (List ℕ)) (fault : StartFault) → HasNotOpened limit first now before after fault → (why : OpenFault) → fault ≡ start.Open why → IsOfFile (Err (of_start fault))
of_file limit first now before after fault not unopened.Disk is = rw is tt
of_file limit first now before after fault not unopened.Memory is = rw is tt
of_file limit first now before after fault not unopened.NotDisk is = rw is tt
of_file limit first now before after fault not (unopened.Damaged place) is = rw is tt
of_file limit first now before after fault not (unopened.Rejected number) is = absurd (subst (HasNotOpened limit first now before after) is not).0

pub refused_unopened : (T : Type 0) (limit : ℕ) (first now : DiskState) (before after : Option (List ℕ)) (fault : StartFault) (Same SameOut : Type 0) → HasNotOpened limit first now before after fault → SameOut
    → IfSome first.content (λ held. IsNoBook held → ((why : OpenFault) × ◌≡◌ {A = Result T StartFault} (Err fault) (Err (start.Open why))) × Same) → IfSome first.content (λ held. IsNoBook held → IsOfFile (Err (of_start fault)) × Same × SameOut)
refused_unopened T limit first now before after fault Same SameOut not quiet refuses =
    if_some first.content _ _ (λ (held : List ℕ) why no. let it = why no in (of_file limit first now before after fault not it.0.0 (same_start fault (start.Open it.0.0) it.0.1), it.1, quiet)) refuses

-- a file that was opened isn't refused
pub refused_opened : (T : Type 0) (content : Option (List ℕ)) (opened : T) (Same P : Type 0) → IfSome content (λ held. IsNoBook held → ((why : OpenFault) × ◌≡◌ {A = Result T StartFault} (Ok opened) (Err (start.Open why))) × Same)
    → IfSome content (λ held. IsNoBook held → P)
refused_opened T content opened Same P refuses = if_some content _ _ (λ (held : List ℕ) why no. absurd (ok_no_err (why no).0.0 (why no).0.1)) refuses
  where
    ok_no_err : (why : OpenFault) → ◌≡◌ {A = Result T StartFault} (Ok opened) (Err (start.Open why)) → ⊥
    ok_no_err why e = absurd cc

-- what a failed call of the file says of the input
pub shown_before : (T : Type 0) (fault : StartFault) (before after : Option (List ℕ)) (Same Begun : Type 0) → (Same → after ≡ before) → (◌≡◌ {A = Result T StartFault} (Err fault) (Err (start.Open unopened.Disk)) → Same ⊎ Begun) → fault ≡ start.Open unopened.Disk
    → (after ≡ before) ⊎ Begun
shown_before T fault before after Same Begun still shown is = either (shown (ap Err is))
  where
    either : Same ⊎ Begun → (after ≡ before) ⊎ Begun
    either (inl same) = inl (still same)
    either (inr begun) = inr begun
