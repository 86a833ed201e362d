-- Where hosting ends between lines: what a crash leaves, and which texts were written.
use Rattle.std.proofs.Common.{◌≡◌, ◌≢◌, ◌⊎◌, inl, inr, ℕ, ◌+◌, ◌-◌, ◌≤◌, ◌<◌, List, [], ◌∷◌, ◌++◌, Option, IfSome, length, length-append, length-drop, take, drop, refl, sym, ap, subst, ◌∙◌, arith, append_assoc}
use Rattle.std.proofs.lemmas.Bool.{cases_lt}
use Rattle.std.proofs.lemmas.List.{append-nil, take_all, drop-append-le, take-append-le}
use Rattle.std.proofs.lemmas.List.Elements.{All-nil}
use Rattle.std.proofs.Math.Seq.{take-append_seam, take-append-add}
use Rattle.flow_orders.specs.Outcomes.{IsAdmissibleOutcome}
use Rattle.journal_records.specs.Formats.{records_of}
use Rattle.line_records.specs.Lines.{HasNoFeed, ended_by_feeds}
use Rattle.market_rules.specs.Market.{Market}
use Rattle.market_history.specs.Histories.{Start, market_of}
use Rattle.disk_edge.specs.Disks.{DiskState, IsDisk}
use Rattle.journal_disk.specs.Entries.{entry, IsNewDisk, most_unkept}
use Rattle.journal_disk.proofs.GoingOn.{looks_none}
use Rattle.journal_keeping.specs.Keeping.{HoldsLegal, KeepsFirst}
use Rattle.journal_keeping.specs.Outputs.{Output, Gains}
use Rattle.journal_keeping.proofs.Begun.{looks_alone}
use Rattle.journal_keeping.proofs.Counts.{if_some}
use Rattle.desk_messages.specs.Desks.{Desks}
use Rattle.desk_session.proofs.Going.{first_all, first_texts}
use Rattle.desk_opening.specs.declared.book.Book.{Book}
use Rattle.desk_opening.specs.declared.book.Book.TheVariants.{Kept, Open}
use Rattle.desk_opening.specs.Books.{AddsTo, LeavesWithOrWithout}
use Rattle.desk_opening.specs.Openings.{BeginsAlone}
use Rattle.desk_keeping.specs.Hosting.{Entries, Texts, desks_of, AreHosted, AreFirstHosted, HasFirstLines, HostsIn}
use Rattle.desk_keeping.specs.Private.{HostState, stored, unwritten, HearsLine, IsFileAt, AreWhole, IsWholeAt, AreToldOf, KeepsWaiting}
use Rattle.desk_keeping.proofs.Leaving.{EndsFile, along_ends, open_stays, open_fails, fails_moments, kept_moments, kept_since, none_stored}
use Rattle.desk_keeping.proofs.Whole.{whole_ends}

-- the first lines of an input are these
abbrev pub AreFirst : ℕ → Option (List ℕ) → Start → List (List ℕ) → Type 0
AreFirst limit content begin lines = IfSome content (λ bytes. HasFirstLines (take limit bytes) begin lines)

-- so it begins so
first_begins : (limit : ℕ) (content : Option (List ℕ)) (begin : Start) (lines : List (List ℕ)) → AreFirst limit content begin lines → AreFirst limit content begin []
first_begins limit content begin lines are =
    if_some content _ _ (λ (bytes : List ℕ) first. (ended_by_feeds lines ++ first.0, record { starts = first.1.starts; pieces = All-nil HasNoFeed; whole = first.1.whole })) are

-- A file is continued, or a new one begins as the input does.
pub begins_as : (limit : ℕ) (content : Option (List ℕ)) (begin was : Start) (start : DiskState) (from m : Market) → AreFirst limit content begin [] → ((begin ≡ was) × (from ≡ m)) ⊎ (IfSome start.content IsNewDisk × (from ≡ market_of begin))
    → ((begin ≡ was) × (from ≡ m)) ⊎ (IfSome start.content IsNewDisk × (from ≡ market_of begin) × AreFirst limit content begin [])
begins_as limit content begin was start from m begins (inl same) = inl same
begins_as limit content begin was start from m begins (inr (is_new, there)) = inr (is_new, there, begins)

-- fewer of them are kept too
fewer_first : (begin : Start) (all : Entries) (safe less : ℕ) (image : List ℕ) → less ≤ safe → KeepsFirst begin [] all safe (length all) image → KeepsFirst begin [] all less (length all) image
fewer_first begin all safe less image few (n, least, most, stands) = (n, omega (arith, few, least), most, stands)

-- so many entries are acknowledged at most
lags_by : {Cut : Type 0} (acknowledged safe count old : ℕ) → acknowledged ≤ safe - old → Cut ⊎ ((safe ≤ count) ⊎ (safe ≤ old)) → Cut ⊎ (acknowledged ≤ count - old)
lags_by acknowledged safe count old most (inl cut) = inl cut
lags_by acknowledged safe count old most (inr (inl all)) = inr (omega (arith, most, all))
lags_by acknowledged safe count old most (inr (inr none)) = inr (omega (arith, most, none))

-- what lines, their entries and texts, and what became of the file say together
pub hosts_so : (limit : ℕ) (content : Option (List ℕ)) (Cut : Type 0) (begin was : Start) (start end : DiskState) (old : Entries) (m : Market) (lines : List (List ℕ)) (pairs : Entries) (texts : Texts) (safe count : ℕ) (told : Texts) (out later : Output)
    → AreFirstHosted begin lines pairs texts → EndsFile begin was start end old m lines pairs safe → AreFirst limit content begin lines → count ≤ safe → Cut ⊎ ((safe ≤ count) ⊎ (safe ≤ length old)) → AreFirstHosted begin lines (take count pairs) told → Gains Cut out later told
    → HostsIn limit content Cut was start end old m out later
hosts_so limit content Cut begin was start end old m lines pairs texts safe count told out later asked file are within lag answered gained = record {
  begin = begin;
  from = file.from;
  continues = begins_as limit content begin was start file.from m (first_begins limit content begin lines are) file.continues;
  new = file.new;
  acknowledged = file.acknowledged;
  runs = file.runs;
  lines = lines;
  are = inr are;
  pairs = pairs;
  texts = texts;
  asked = asked;
  whole = file.whole;
  parts = file.parts;
  count = count;
  within = omega (arith, within, file.within);
  durable = λ image left. inr (fewer_first begin (old ++ file.new) safe count image within (file.durable image left));
  lag = lags_by file.acknowledged safe count (length old) file.most lag;
  told = told;
  answered = answered;
  gained = gained;
}

-- all of these lines were served
pub all_hosted : (begin : Start) (lines : List (List ℕ)) (pairs : Entries) (texts : Texts) (market : Market) (desks : Desks) → AreHosted begin lines pairs texts market desks → AreFirstHosted begin lines pairs texts
all_hosted begin lines pairs texts market desks served =
    subst (λ (l : List (List ℕ)). AreFirstHosted begin l pairs texts) (append-nil lines) (first_all IsAdmissibleOutcome (market_of begin) market (desks_of begin) desks 0 lines [] pairs texts served)

-- the texts that were written are those of first entries of the file
pub told_first : (begin : Start) (start : DiskState) (read : List (List ℕ)) (gone : Texts) (safe waiting pairs : Entries) → pairs ≡ safe ++ waiting → AreToldOf begin start read gone safe
    → (count : ℕ) × (count ≤ length safe) × AreFirstHosted begin read (take count pairs) gone × ((was : Start) (legal : Entries) (m : Market) → HoldsLegal start was legal m → (length safe ≤ count) ⊎ (length safe ≤ length legal))
told_first begin start read gone safe waiting pairs parts (done, rest, read_is, first, others, safe_is, market, desks, hosted, old) =
    let first_are : take (length first) pairs ≡ first =
    ap (take (length first)) (parts ∙ ap (λ (l : Entries). l ++ waiting) safe_is ∙ append_assoc first others waiting) ∙ take-append_seam first (others ++ waiting)
    in
    let served : AreFirstHosted begin (done ++ rest) first gone = first_all IsAdmissibleOutcome (market_of begin) market (desks_of begin) desks 0 done rest first gone hosted in (
      length first,
      omega (arith, ap length safe_is, length-append first others),
      subst (λ (l : Entries). AreFirstHosted begin read l gone) (sym first_are) (subst (λ (l : List (List ℕ)). AreFirstHosted begin l first gone) (sym read_is) served),
      old,
    )

-- so many texts are some of these
pub take_within : (count : ℕ) (texts : Texts) → (k : ℕ) × (k ≤ length texts) × (take count texts ≡ take k texts)
take_within count texts = by (cases_lt (length texts) count)
  where
    by : (length texts < count) ⊎ (count ≤ length texts) → (k : ℕ) × (k ≤ length texts) × (take count texts ≡ take k texts)
    by (inl more) = (length texts, omega arith, take_all count texts (omega (arith, more)) ∙ sym (take_all (length texts) texts (omega arith)))
    by (inr few) = (count, few, refl)

-- the first of the texts that follow those that were written are those of first entries of the lines
pub more_first : (begin : Start) (read : List (List ℕ)) (pairs : Entries) (texts gone others : Texts) (market : Market) (desks : Desks) → AreHosted begin read pairs texts market desks → texts ≡ gone ++ others → (some : ℕ)
    → (count : ℕ) × (count ≤ length pairs) × AreFirstHosted begin read (take count pairs) (gone ++ take some others)
more_first begin read pairs texts gone others market desks served said some =
    let (k, within, same) = take_within some others in
    let (count, few, first) = first_texts IsAdmissibleOutcome read pairs texts (market_of begin) market (desks_of begin) desks 0 served (length gone + k) (omega (arith, within, ap length said, length-append gone others)) in
    let texts_are : take (length gone + k) texts ≡ gone ++ take some others = ap (take (length gone + k)) said ∙ take-append-add gone others k ∙ ap (λ (l : Texts). gone ++ l) (sym same) in
    (count, few, subst (λ (l : Texts). AreFirstHosted begin read (take count pairs) l) texts_are first)

-- ---- which texts are to be written

-- between lines all of them are
pub unwritten_all : (h : HostState) → h.told ≡ length h.session.talk.texts → unwritten h ≡ drop h.written h.session.talk.texts
unwritten_all h all = take_all (h.told - h.written) (drop h.written h.session.talk.texts) (omega (arith, length-drop h.written h.session.talk.texts, all))

-- once a line was heard, those of the lines before
pub unwritten_heard : (line : List ℕ) (h mid : HostState) (now then : DiskState) (One : Type 0) → HearsLine line h mid now then One → h.written ≤ h.told → h.told ≡ length h.session.talk.texts → unwritten mid ≡ drop h.written h.session.talk.texts
unwritten_heard line h mid now then One heard order all =
    let left : Texts = drop h.written h.session.talk.texts in
    let size : length left ≡ h.told - h.written = omega (arith, length-drop h.written h.session.talk.texts, all) in
    ap (λ (n : ℕ). take (n - mid.written) (drop mid.written mid.session.talk.texts)) heard.aside.told ∙ ap (λ (n : ℕ). take (h.told - n) (drop n mid.session.talk.texts)) heard.aside.written
    ∙ ap (λ (l : Texts). take (h.told - h.written) (drop h.written l)) heard.said ∙ ap (take (h.told - h.written)) (drop-append-le h.written h.session.talk.texts heard.texts (omega (arith, order, all)))
    ∙ take-append-le (h.told - h.written) left heard.texts (omega (arith, size)) ∙ take_all (h.told - h.written) left (omega (arith, size))

-- ---- what becomes of the file while entries that wait are kept

-- What becomes of a file from a state on, if nothing is done, if the entries that wait are kept, or if they aren't: `safe` of the entries are in the file before.
pub record MayEnd (begin was : Start) (start : DiskState) (old : Entries) (m : Market) (lines : List (List ℕ)) (pairs : Entries) (safe : ℕ) (host next : HostState) (mid later : DiskState) (Same : Type 0) : Type 0 where
  pub stays : Same → EndsFile begin was start later old m lines pairs safe
  pub kept : KeepsWaiting host next mid later Same → EndsFile begin was start later old m lines pairs (length pairs)
  pub fails : host.group ≢ [] → LeavesWithOrWithout host.group host.book mid later → EndsFile begin was start later old m lines pairs safe

-- entries are at most as many as their bytes
pub few_stored : (waiting : Entries) → length waiting ≤ length (stored waiting)
few_stored [] = omega arith
few_stored (pair ∷ waiting) = omega (arith, few_stored waiting, length-append (entry (records_of pair)) (stored waiting))

module _ (begin was : Start) (start : DiskState) (old : Entries) (m : Market) (holds : HoldsLegal start was old m) (alone : IfSome start.content (BeginsAlone begin)) (lines : List (List ℕ)) where
  abbrev Ends : DiskState → Entries → ℕ → Type 0
  Ends end pairs safe = EndsFile begin was start end old m lines pairs safe

  module _ (safe waiting : Entries) (market : Market) (few : length waiting ≤ most_unkept) (all : AreWhole begin lines old (safe ++ waiting)) where
    -- nothing was done
    pub stays_file : (b : Book) (mid : DiskState) → IsFileAt begin start b mid safe waiting market → IsWholeAt begin start lines b mid safe → IsDisk mid → Ends mid (safe ++ waiting) (length safe)
    stays_file (Kept place ahead) mid (none, along) whole is_disk =
        subst (λ (l : Entries). Ends mid l (length safe)) (sym (ap (λ (l : Entries). safe ++ l) none ∙ append-nil safe))
        (along_ends begin was start old m holds place ahead mid safe market along alone lines mid is_disk (looks_alone begin old mid mid (looks_none mid is_disk)))
    stays_file (Open place) mid file whole is_disk = open_stays begin was start old m holds place mid safe waiting market file lines is_disk (whole was old m holds).0 few

    module _ (mid later : DiskState) (is_later : IsDisk later) (group : List ℕ) (same : group ≡ stored waiting) where
      -- the entries that wait weren't kept
      pub fails_file : (b : Book) → IsFileAt begin start b mid safe waiting market → IsWholeAt begin start lines b mid safe → LeavesWithOrWithout group b mid later → Ends later (safe ++ waiting) (length safe)
      fails_file (Kept place ahead) file whole never = absurd never
      fails_file (Open place) file whole leaves =
          let moments = fails_moments begin was start old m holds place mid safe waiting market file group later same leaves.1 in
          open_fails begin was start old m holds place mid safe waiting market file lines group later same is_later (whole_ends begin start lines place mid later safe waiting whole was old m holds all moments) few leaves.1

      module _ (Same : Type 0) (carry : Same → (P : DiskState → Type 0) → P mid → P later) where
        -- they were, or there are none
        pub kept_file : (b c : Book) → IsFileAt begin start b mid safe waiting market → IsWholeAt begin start lines b mid safe → ((group ≡ []) × (c ≡ b) × Same) ⊎ ((group ≢ []) × AddsTo group b c mid later × LeavesWithOrWithout group b mid later)
            → Ends later (safe ++ waiting) (length (safe ++ waiting))
        kept_file b c file whole (inl (none, is, still)) =
            let empty : waiting ≡ [] = none_stored waiting (sym same ∙ none) in
            let size : length safe ≡ length (safe ++ waiting) = omega (arith, length-append safe waiting, ap length empty) in
            subst (λ (n : ℕ). Ends later (safe ++ waiting) n) size (stays_file b later (carry still (λ s. IsFileAt begin start b s safe waiting market) file) (carry still (λ s. IsWholeAt begin start lines b s safe) whole) is_later)
        kept_file (Open place) (Open to) file whole (inr (some, (moved, told, adds), leaves)) =
            let moments = kept_moments begin was start old m holds place mid safe waiting market file to later waiting (adds waiting file.fits same) in
            let since = kept_since begin start place mid safe waiting market file to later (adds waiting file.fits same) told in
            subst (λ (l : Entries). Ends later l (length (safe ++ waiting))) (append-nil (safe ++ waiting)) (open_stays begin was start old m holds to later (safe ++ waiting) [] market since lines is_later (whole_ends begin start lines place mid later safe waiting whole was old m holds all moments) (omega arith))
        kept_file (Open place) (Kept to ahead) file whole (inr (some, never, leaves)) = absurd never
        kept_file (Kept place ahead) c file whole (inr (some, never, leaves)) = absurd never

  module _ (mid later : DiskState) (is_later : IsDisk later) (Same : Type 0) (carry : Same → (P : DiskState → Type 0) → P mid → P later) (host next : HostState) where
    -- from a file between lines
    pub may_end : (pairs safe waiting : Entries) (market : Market) → pairs ≡ safe ++ waiting → length waiting ≤ most_unkept → host.group ≡ stored waiting → AreWhole begin lines old (safe ++ waiting) → IsFileAt begin start host.book mid safe waiting market
        → IsWholeAt begin start lines host.book mid safe → MayEnd begin was start old m lines pairs (length safe) host next mid later Same
    may_end pairs safe waiting market parts few same all file whole = record {
      stays = λ still. subst (λ (l : Entries). Ends later l (length safe)) (sym parts) (stays_file safe waiting market few all host.book later (carry still (λ s. IsFileAt begin start host.book s safe waiting market) file) (carry still (λ s. IsWholeAt begin start lines host.book s safe) whole) is_later);
      kept = λ keeps. subst (λ (l : Entries). Ends later l (length l)) (sym parts) (kept_file safe waiting market few all mid later is_later host.group same Same carry host.book next.book file whole keeps);
      fails = λ some leaves. subst (λ (l : Entries). Ends later l (length safe)) (sym parts) (fails_file safe waiting market few all mid later is_later host.group same host.book file whole leaves);
    }

    -- from a file in which all of the entries are, if none waits
    pub may_end_all : (pairs : Entries) (safe : ℕ) → safe ≡ length pairs → host.group ≡ [] → Ends mid pairs (length pairs) → MayEnd begin was start old m lines pairs safe host next mid later Same
    may_end_all pairs safe within none file = record {
      stays = λ still. subst (λ (n : ℕ). Ends later pairs n) (sym within) (carry still (λ s. Ends s pairs (length pairs)) file);
      kept = λ keeps. by keeps;
      fails = λ some leaves. absurd (some none);
    }
      where
        by : KeepsWaiting host next mid later Same → Ends later pairs (length pairs)
        by (inl (is, same, still)) = carry still (λ s. Ends s pairs (length pairs)) file
        by (inr (some, adds, leaves)) = absurd (some none)
