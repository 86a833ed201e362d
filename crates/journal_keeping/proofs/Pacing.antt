-- What was read and written when keeping a journal ended.
use Rattle.std.proofs.Common.{◌≡◌, ⊎_elim, inl, inr, ℕ, ◌+◌, ◌-◌, ◌≤◌, List, [], ◌∷◌, ◌++◌, Option, Some, None, IfSome, Result, Ok, Err, length, map, take, flat_map, refl, sym, ap, subst, ◌∙◌, arith, append_assoc, length-append}
use Rattle.std.proofs.lemmas.List.Elements.{All-nil}
use Rattle.std.proofs.Math.Seq.{take-append-add}
use Rattle.flow_io.specs.Streams.{Takes, TakesAtMost, Grows}
use Rattle.flow_io.specs.Windows.{WindowState}
use Rattle.flow_io.proofs.Reading.{Takes-more}
use Rattle.flow_io.proofs.Growth.{Grows-nothing}
use Rattle.wire_records.specs.Records.{Record}
use Rattle.wire_records.specs.Grammars.{BeginsWithNone, encode_all}
use Rattle.wire_records.specs.Reading.{StartsWith}
use Rattle.wire_records.specs.Formats.{commands}
use Rattle.word_driver.specs.Does.{IsTaken}
use Rattle.journal_records.specs.Pairs.{pair_encoding}
use Rattle.market_rules.specs.Market.{Market}
use Rattle.market_rules.specs.Allocating.{RecordMayAllocate}
use Rattle.market_history.specs.Histories.{Start}
use Rattle.file_units.specs.Units.{GoesToBreak}
use Rattle.file_units.specs.Inputs.{known}
use Rattle.disk_edge.specs.Disks.{DiskState}
use Rattle.file_units.specs.declared.units.Ending.{Ending}
use Rattle.file_units.specs.declared.units.Ending.TheVariants.{End, Torn, TooLong}
use Rattle.file_units.specs.declared.input.TakeFault.{TakeFault}
use Rattle.file_units.specs.declared.input.TakeFault.TheVariants.{Read, Broken}
use Rattle.journal_keeping.specs.declared.fault.OpenFault.TheVariants as unopened
use Rattle.journal_keeping.specs.declared.fault.InputFault.TheVariants as input
use Rattle.journal_keeping.specs.declared.fault.BeginFault.{BeginFault}
use Rattle.journal_keeping.specs.declared.fault.BeginFault.TheVariants.{Open, Input, Make}
use Rattle.journal_keeping.specs.declared.fault.ServeFault.{ServeFault}
use Rattle.journal_keeping.specs.declared.fault.ServeFault.TheVariants.{Disk, Write, Memory}
use Rattle.journal_keeping.specs.declared.fault.KeepFault.TheVariants as kept
use Rattle.journal_keeping.specs.Faults.{of_begin, kept_result}
use Rattle.journal_keeping.specs.Taking.{IsNearStart, source_format}
use Rattle.journal_keeping.specs.Starts.{version_of, source_start, sources, source_starts}
use Rattle.journal_keeping.specs.Outputs.{Output}
use Rattle.journal_keeping.specs.Pacing.{AnswersAll, IsNear, KeepsPace, RunsOut}
use Rattle.journal_keeping.specs.Dialogs.{KeepsJust, asked_of}
use Rattle.journal_keeping.specs.Private.{Adds, Names, ServesOn}
use Rattle.journal_keeping.specs.Beginning.{IsBegun, IsAfterSource, NotBegun, Unread}
use Rattle.journal_keeping.proofs.Turns.{Pairs}
use Rattle.journal_keeping.proofs.Magic.{BreaksOffEarly, at_most}
use Rattle.journal_keeping.proofs.Sources.{BeginsWithAll, asked_are_units, all_before_break, all_to_wanting, starts_with}
use Rattle.journal_keeping.proofs.Gaining.{gained_whole}
use Rattle.journal_keeping.proofs.Dialogs.{has_served, keeps_just}
use Rattle.journal_keeping.proofs.Faults.{begin_memory}
use Rattle.journal_keeping.proofs.Whole.{wanted_one}

-- ---- before a record was served

near_none : (limit : ℕ) (content : Option (List ℕ)) (out : Output) → IsNear limit content content out out
near_none limit None out = tt
near_none limit (Some bytes) out = (0, omega arith, inl (omega arith))

read_early : (limit : ℕ) (content left : Option (List ℕ)) (out : Output) → IfSome content (BreaksOffEarly limit left) → KeepsPace limit content left out out (Err kept.Read)
read_early limit None left out few = tt
read_early limit (Some bytes) left out few = (few.0, few.1, inl (few.2, refl))

near_start : (limit : ℕ) (content left : Option (List ℕ)) (out : Output) → IfSome content (λ bytes. IsNearStart source_format limit bytes left) → IsNear limit content left out out
near_start limit None left out near = tt
near_start limit (Some bytes) left out (n, taken, input, body, magic, few) = (
  n,
  taken,
  inr (record {
    input = input;
    pairs = [];
    more = [];
    starts = record { body = body; rest = body; magic = magic; whole = refl; each = All-nil commands.units.IsLawful };
    stands = Grows-nothing out.held;
    near = omega (arith, few);
  }),
)

pub paced_unread : (limit : ℕ) (content left : Option (List ℕ)) (out : Output) (fault : BeginFault) → Unread source_format limit content left fault → KeepsPace limit content left out out (Err (of_begin fault))
paced_unread limit content left out (Open unopened.Disk) same = subst (λ (o : Option (List ℕ)). IsNear limit content o out out) (sym same) (near_none limit content out)
paced_unread limit content left out (Open unopened.Memory) same = inl (subst (λ (o : Option (List ℕ)). IsNear limit content o out out) (sym same) (near_none limit content out))
paced_unread limit content left out (Open unopened.NotDisk) same = tt
paced_unread limit content left out (Open (unopened.Damaged n)) same = tt
paced_unread limit content left out (Open (unopened.Rejected n)) same = tt
paced_unread limit content left out (Input input.NotFlow) why = tt
paced_unread limit content left out (Input input.BadCheckpoint) why = tt
paced_unread limit content left out (Input input.Read) why = read_early limit content left out why.1
paced_unread limit content left out (Input input.Memory) (wanted, inl same) = inl (subst (λ (o : Option (List ℕ)). IsNear limit content o out out) (sym same) (near_none limit content out))
paced_unread limit content left out (Input input.Memory) (wanted, inr new) = inr (new.1, refl)
paced_unread limit content left out Make near = near_start limit content left out near

-- memory ran out before anything was served
pub unread_out : (limit : ℕ) (held : List ℕ) (content left : Option (List ℕ)) (end : DiskState) (out : Output) (fault : BeginFault) → NotBegun source_format limit held content left end fault → Unread source_format limit content left fault → of_begin fault ≡ kept.Memory → RunsOut limit held content left end out out
unread_out limit held content left end out fault why unread is = ⊎_elim
    (λ (e : fault ≡ Open unopened.Memory). inl (subst (Unread source_format limit content left) e unread, refl))
    (λ (e : fault ≡ Input input.Memory). reading (subst (NotBegun source_format limit held content left end) e why))
    (begin_memory fault is)
  where
    reading : NotBegun source_format limit held content left end (Input input.Memory) → RunsOut limit held content left end out out
    reading (inl (begin, old, market, opens, inl same, kept)) = inl (same, refl)
    reading (inl (begin, old, market, opens, inr new, kept)) = absurd (wanted_one (version_of begin) new.0)
    reading (inr (new, same, images, inl unread)) = inl (unread, refl)
    reading (inr (new, same, images, inr early)) = inr (inl (new, same, refl, early.1))

-- ---- records were served

all_left : (content left : Option (List ℕ)) (bytes : List ℕ) → Takes content left bytes → IfSome left (λ l. l ≡ []) → IfSome content (λ b. left ≡ Some [])
all_left None left bytes takes none = tt
all_left (Some b) None bytes takes none = absurd takes
all_left (Some b) (Some l) bytes takes none = ap (λ (x : List ℕ). Some x) none

-- what follows the beginning
after_it : (start bytes first held taken m l : List ℕ) → bytes ≡ first ++ m → first ≡ start ++ held → m ≡ taken ++ l → bytes ≡ start ++ (held ++ (taken ++ l))
after_it start bytes first held taken m l opens magic takes =
    opens ∙ ap (λ (xs : List ℕ). xs ++ m) magic ∙ append_assoc start held m ∙ ap (λ (xs : List ℕ). start ++ (held ++ xs)) takes

module _ (limit : ℕ) (content mid left : Option (List ℕ)) (w : WindowState) (input : Start) (following : IsAfterSource limit input w content mid) (market : Market) (place : ℕ) (begun end : DiskState) (out later : Output) where
  abbrev start : List ℕ
  start = source_start input

  first_long : length following.first ≡ length start + length w.held
  first_long = ap length following.magic.1 ∙ length-append start w.held

  far : w.limit - w.place ≡ limit - length start
  far = omega (arith, following.limited, following.place)

  abbrev Served : Result Ending (TakeFault ServeFault) → Type 0
  Served result = ServesOn w mid left result market place begun end out later

  all_taken : (taken : List ℕ) → Takes mid left taken → Takes content left (following.first ++ taken)
  all_taken taken takes = Takes-more content mid left following.first taken following.takes takes

  pub taken_at_most : (result : Result Ending (TakeFault ServeFault)) → Served result → TakesAtMost content left (limit + 1)
  taken_at_most result on =
      at_most content left (following.first ++ on.goes.taken) (limit + 1) (all_taken on.goes.taken on.goes.takes)
      (omega (arith, length-append following.first on.goes.taken, first_long, following.few, on.goes.few, following.limited, following.place))

  -- near the records whose entries were written
  near_told : (o : Option (List ℕ)) (m l : Option (List ℕ)) (taken : List ℕ) (new : Pairs) (text : List ℕ) → Takes o m following.first → Takes m l taken
      → BeginsWithAll (take (limit - length start) (w.held ++ known taken l)) (asked_of new) → Grows out.held later.held (flat_map pair_encoding new ++ text)
      → length (w.held ++ taken) ≤ length (encode_all commands.units (asked_of new)) + (w.room + 1) → IsNear limit o l out later
  near_told None m l taken new text opens takes all stands few = tt
  near_told (Some bytes) None l taken new text opens takes all stands few = absurd opens
  near_told (Some bytes) (Some m) None taken new text opens takes all stands few = absurd takes
  near_told (Some bytes) (Some m) (Some l) taken new text opens takes all stands few = (
    length (following.first ++ taken),
    sym (ap length (opens ∙ ap (λ (xs : List ℕ). following.first ++ xs) takes ∙ sym (append_assoc following.first taken l)) ∙ length-append (following.first ++ taken) l),
    inr (record {
      input = input;
      pairs = new;
      more = text;
      starts = starts_with input limit bytes following.first w.held taken (Some m) (Some l) (asked_of new) opens following.magic following.few takes all;
      stands = stands;
      near = omega (arith, few, length-append following.first taken, length-append w.held taken, first_long, following.room);
    }),
  )

  broken_near : (fault : ServeFault) (result : Result Ending (TakeFault ServeFault)) (on : Served result) (goes : GoesToBreak commands Adds (Names on.market on.read on.last) (take (w.limit - w.place) (w.held ++ known on.goes.taken left)) fault [] tt tt) → length (w.held ++ on.goes.taken) ≤ length (encode_all commands.units goes.units) + (w.room + 1) → IsNear limit content left out later
  broken_near fault result on goes few =
      let first = all_before_break on.market (take (w.limit - w.place) (w.held ++ known on.goes.taken left)) fault on.read on.last goes in
      near_told content mid left on.goes.taken on.read on.written.0 following.takes on.goes.takes
      (subst (λ (n : ℕ). BeginsWithAll (take n (w.held ++ known on.goes.taken left)) (asked_of on.read)) far first.0) on.written.1
      (subst (λ (l : List Record). length (w.held ++ on.goes.taken) ≤ length (encode_all commands.units l) + (w.room + 1)) (sym first.1) few)

  -- all records that were taken
  read_all : (o m l : Option (List ℕ)) (taken : List ℕ) (new : Pairs) (units : List Record) (rest : List ℕ) → Takes o m following.first → Takes m l taken → asked_of new ≡ units
      → take (length (w.held ++ taken)) (take (limit - length start) (w.held ++ known taken l)) ≡ encode_all commands.units units ++ rest → BeginsWithNone commands.units rest → Grows out.held later.held (flat_map pair_encoding new)
      → IfSome o (λ bytes. (n : ℕ) × IsTaken bytes l n × AnswersAll (take n (take limit bytes)) out later)
  read_all None m l taken new units rest opens takes is whole none written = tt
  read_all (Some bytes) None l taken new units rest opens takes is whole none written = absurd opens
  read_all (Some bytes) (Some m) None taken new units rest opens takes is whole none written = absurd takes
  read_all (Some bytes) (Some m) (Some l) taken new units rest opens takes is whole none written =
      let later = w.held ++ (taken ++ l) in
      let seen = w.held ++ taken in
      let all : bytes ≡ start ++ later = after_it start bytes following.first w.held taken m l opens following.magic.1 takes in
      let parts : limit ≡ length start + (limit - length start) = omega (arith, following.few, first_long) in
      let counts : length (following.first ++ taken) ≡ length start + length seen = omega (arith, length-append following.first taken, length-append w.held taken, first_long) in
      let within : take limit bytes ≡ start ++ take (limit - length start) later =
      ap (take limit) all ∙ ap (λ (n : ℕ). take n (start ++ later)) parts ∙ take-append-add start later (limit - length start) in (
        length (following.first ++ taken),
        sym (ap length (opens ∙ ap (λ (xs : List ℕ). following.first ++ xs) takes ∙ sym (append_assoc following.first taken l)) ∙ length-append (following.first ++ taken) l),
        record {
          input = input;
          pairs = new;
          body = take (length seen) (take (limit - length start) later);
          rest = rest;
          magic = (following.magic.0, ap (take (length (following.first ++ taken))) within ∙ ap (λ (n : ℕ). take n (start ++ take (limit - length start) later)) counts ∙ take-append-add start (take (limit - length start) later) (length seen));
          whole = whole ∙ ap (λ (l : List Record). encode_all commands.units l ++ rest) (sym is);
          none = none;
          written = written;
        },
      )

  either : (o l : Option (List ℕ)) → IfSome o (λ bytes. (n : ℕ) × IsTaken bytes l n × AnswersAll (take n (take limit bytes)) out later) → KeepsPace limit o l out later (Err kept.Read)
  either None l all = tt
  either (Some bytes) l all = (all.0, all.1, inr all.2)

  unbroken : (fault : ServeFault) → ¬ (◌≡◌ {A = Result Ending (TakeFault ServeFault)} (Err Read) (Err (Broken fault)))
  unbroken fault e = absurd cc

  pub paced_served : (result : Result Ending (TakeFault ServeFault)) → Served result → KeepsPace limit content left out later (kept_result result)
  paced_served (Ok End) on = all_left content left (following.first ++ on.goes.taken) (all_taken on.goes.taken on.goes.takes) (on.goes.goes.1 refl)
  paced_served (Ok (Torn n)) on = tt
  paced_served (Ok TooLong) on = tt
  paced_served (Err Read) on =
      let goes = on.goes.goes in
      let told : Grows out.held later.held (flat_map pair_encoding on.read) = subst (λ (l : Pairs). Grows out.held later.held (flat_map pair_encoding l)) on.ended.1 (gained_whole _ pair_encoding out later on.new (unbroken Write) on.stops.gained) in
      either content left (read_all content mid left on.goes.taken on.read goes.units goes.reads.rest following.takes on.goes.takes (asked_are_units [] goes.units on.read tt tt goes.leads)
      (subst (λ (n : ℕ). take (length (w.held ++ on.goes.taken)) (take n (w.held ++ known on.goes.taken left)) ≡ encode_all commands.units goes.units ++ goes.reads.rest) far goes.reads.whole) goes.reads.none told)
  paced_served (Err (Broken Write)) on = broken_near Write (Err (Broken Write)) on on.goes.goes.0 on.goes.goes.1
  paced_served (Err (Broken Disk)) on = broken_near Disk (Err (Broken Disk)) on on.goes.goes.0 on.goes.goes.1
  paced_served (Err (Broken Memory)) on = inl (broken_near Memory (Err (Broken Memory)) on on.goes.goes.0 on.goes.goes.1)

  -- a record that may allocate
  starts_where : (o : Option (List ℕ)) (taken : List ℕ) (records : List Record) → Takes o mid following.first → Takes mid left taken → BeginsWithAll (take (limit - length start) (w.held ++ known taken left)) records
      → IfSome o (λ bytes. StartsWith sources limit bytes input records)
  starts_where None taken records opens takes all = tt
  starts_where (Some bytes) taken records opens takes all = starts_with input limit bytes following.first w.held taken mid left records opens following.magic following.few takes all

  memory_alone : (fault : ServeFault) → ¬ (fault ≡ Memory) → ¬ (◌≡◌ {A = Result Ending (TakeFault ServeFault)} (Err (Broken Memory)) (Err (Broken fault)))
  memory_alone fault other e = other (let same : Memory ≡ fault = cc in sym same)

  pub wants_next : (held : List ℕ) (begin : Start) (count : ℕ) → IsBegun source_starts held begin input market count place begun → (result : Result Ending (TakeFault ServeFault)) → Served result → result ≡ Err (Broken Memory) → RunsOut limit held content left end out later
  wants_next held begin count is result on0 lacks =
      let on = subst Served lacks on0 in
      let wanting = all_to_wanting on.market (take (w.limit - w.place) (w.held ++ known on.goes.taken left)) on.read on.last on.goes.goes.0 in
      let starts = subst (λ (l : Pairs). IfSome content (λ bytes. StartsWith sources limit bytes input (asked_of l ++ wanting.0 ∷ []))) (sym on.ended.1)
      (starts_where content on.goes.taken (asked_of on.read ++ wanting.0 ∷ []) following.takes on.goes.takes
      (subst (λ (n : ℕ). BeginsWithAll (take n (w.held ++ known on.goes.taken left)) (asked_of on.read ++ wanting.0 ∷ [])) far wanting.1)) in
      inr (inr (has_served source_starts held begin input market count place begun is following.magic.0 _ _ on.market end out later on.new on.more (map pair_encoding on.new) on.stops
      ⊥ (memory_alone Write (λ is. cc is)) (λ first m n new texts now. (texts ≡ map pair_encoding new) × (next : Record) × RecordMayAllocate now next × IfSome content (λ bytes. StartsWith sources limit bytes first (asked_of new ++ next ∷ []))) (KeepsJust end)
      (refl, wanting.0, wanting.2, starts)
      (keeps_just source_starts held begin input market count place begun is following.magic.0 _ _ on.market end out later on.new on.more (map pair_encoding on.new) on.stops (memory_alone Disk (λ is. cc is)))))
