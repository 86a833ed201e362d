-- What hosting comes to, of a file whose bytes are known: all lines were answered, or it stopped at an entry of the file.
use Rattle.std.proofs.Common.{◌≡◌, ◌≢◌, ◌⊎◌, inl, inr, ℕ, ◌+◌, ◌<◌, List, [], ◌∷◌, ◌++◌, Option, Some, IfSome, Ok, Err, length, length-append, map, take, drop, sym, ap, subst, ◌∙◌, arith}
use Rattle.std.specs.Prelude.{⊤}
use Rattle.std.proofs.lemmas.List.{append-nil, take_all}
use Rattle.wire_records.specs.Commands.{Command}
use Rattle.wire_records.specs.Versions.{IsReadAs}
use Rattle.canonical_rule.specs.Canonical.{IsCanonicalOutcome}
use Rattle.flow_io.specs.Windows.{WindowState}
use Rattle.journal_records.specs.Formats.{records_of}
use Rattle.market_rules.specs.Market.{Market}
use Rattle.market_rules.specs.Journal.{Follows}
use Rattle.market_history.specs.Histories.{Start}
use Rattle.disk_edge.specs.Disks.{DiskState, IsDisk}
use Rattle.disk_edge.specs.Images.{LeavesOnly}
use Rattle.input_lines.specs.Finding.{FindsNextWithin, FindsNoFeed}
use Rattle.input_lines.specs.declared.lines.Next.{Next}
use Rattle.input_lines.specs.declared.lines.Next.TheVariants as next
use Rattle.journal_disk.specs.Entries.{Keeps}
use Rattle.journal_disk.specs.Ahead.{AheadState}
use Rattle.journal_disk.specs.Stepping.{IsDamagedAt}
use Rattle.journal_keeping.specs.Starts.{head_of}
use Rattle.journal_keeping.specs.Openings.{IsOpening}
use Rattle.journal_keeping.specs.Openings as opening
use Rattle.journal_keeping.specs.Outputs.{Output, Gains}
use Rattle.journal_keeping.proofs.Gaining.{gains_more}
use Rattle.desk_lines.specs.Hearing.{most_envelope}
use Rattle.desk_opening.specs.declared.book.Book.{Book}
use Rattle.desk_opening.specs.declared.book.Book.TheVariants.{Kept, Open}
use Rattle.desk_opening.specs.Books.{IsReadAlong, Continues}
use Rattle.desk_opening.specs.Openings.{BeginsAlone}
use Rattle.desk_keeping.specs.declared.fault.HostFault.{HostFault}
use Rattle.desk_keeping.specs.declared.fault.HostFault.TheVariants.{Read, Write, Disk, Memory, NotDisk, Damaged, Rejected, NotFlow, BadCheckpoint, TooLong, Differs}
use Rattle.desk_keeping.specs.Hosting.{Entries, Texts, IsReadTo, HasEntriesOf, HasAnswered, StopsAtEntry, IsEntryInvalid, IsEntryOther, HasTakenBeginning, TellsFirst, ComesTo}
use Rattle.desk_keeping.specs.Private.{HostState, unwritten, IsFileAt, IsAt, HasGone, WhyNot, HearsLine, StopsWithin, BreaksLine, BreaksGroup, BreaksEnd, StopsHere, IsAtEntry}
use Rattle.desk_keeping.proofs.Leaving.{none_stored}
use Rattle.desk_keeping.proofs.Stopped.{served_into, left_within, along_first, along_then}
use Rattle.desk_keeping.proofs.Ending.{AreFirst, unwritten_all, unwritten_heard}
use Rattle.desk_keeping.proofs.Telling.{held_along, up_to, tells_gone, tells_more, tells_into}
use Rattle.desk_keeping.proofs.Reaching.{all_lines, none_left, limit_lines, read_lines}

module _ (begin : Start) (start : DiskState) (held : List ℕ) (told : start.content ≡ Some held) (alone : IfSome start.content (BeginsAlone begin)) where
  known_so : (P : List ℕ → Type 0) → IfSome start.content P → P held
  known_so P is = subst (λ (o : Option (List ℕ)). IfSome o P) told is

  -- a file that is read along begins with the entries that were read
  pub read_to : (place : ℕ) (ahead : AheadState) (now : DiskState) (pairs : Entries) (market : Market) → IsReadAlong begin place ahead start now pairs market → IsReadTo held begin pairs market place start now
  read_to place ahead now pairs market along =
      let (rest, has, encoded) = held_along begin start held told alone place ahead now pairs market along in
      record {
        has = up_to begin start held told alone place ahead now pairs market along;
        looks = along.looks;
        durable = subst (λ (l : List ℕ). LeavesOnly now.images l) (sym encoded) has.durable;
      }

  -- it got one at least, unless it was new
  has_more : (kept waiting : Entries) → waiting ≡ [] → (New : Type 0) (Old : Type 0) → (New → Old) → (0 < length kept + length waiting) ⊎ New → (kept ≢ []) ⊎ Old
  has_more kept waiting empty New Old known (inl some) = inl (λ none. absurd (omega (arith, some, ap length none, ap length empty)))
  has_more kept waiting empty New Old known (inr new) = inr (known new)

  -- the file has the entries, if none waits
  pub entries_of : (b : Book) (now : DiskState) (safe waiting : Entries) (market : Market) → IsFileAt begin start b now safe waiting market → waiting ≡ [] → HasEntriesOf held begin safe market start now
  entries_of (Kept place ahead) now safe waiting market (none, along) empty = inl (place, read_to place ahead now safe market along)
  entries_of (Open place) now safe waiting market file empty =
      let last : market ≡ file.between = subst (λ (l : Entries). Follows IsReadAs IsCanonicalOutcome file.between l market) empty file.steps in
      let keeps : Keeps (head_of begin) (map records_of (file.old ++ file.kept)) place now = known_so (λ _. Keeps (head_of begin) (map records_of (file.old ++ file.kept)) place now) file.keeps in
      inr (record {
        old = file.old;
        before = file.opened;
        continues = known_so (λ bytes. Continues bytes begin file.old file.opened) file.continues;
        new = file.kept;
        more = has_more file.kept waiting empty (IfSome start.content (λ bytes. IsOpening bytes opening.New)) (IsOpening held opening.New) (known_so (λ bytes. IsOpening bytes opening.New)) file.more;
        parts = file.parts;
        steps = subst (λ (n : Market). Follows IsReadAs IsCanonicalOutcome file.opened file.kept n) (sym last) file.goes_on.steps;
        keeps = (place, subst (λ (l : Entries). Keeps (head_of begin) (map records_of l) place now) (sym file.parts) keeps);
      })

  module _ (first : Output) (read : List (List ℕ)) (h : HostState) (now : DiskState) (out : Output) (at : IsAt begin start first read h now out) where
    -- all lines were answered, if nothing waits
    pub has_answered : (Are : Start → List (List ℕ) → Type 0) → Are begin read → h.group ≡ [] → drop h.written h.session.talk.texts ≡ [] → HasAnswered Are held start now first out
    has_answered Are are none written =
        let empty : at.waiting ≡ [] = none_stored at.waiting (sym at.group ∙ none) in
        let same : at.pairs ≡ at.safe = at.parts ∙ ap (λ (l : Entries). at.safe ++ l) empty ∙ append-nil at.safe in
        let all : at.texts ≡ at.gone = at.said ∙ ap (λ (l : Texts). at.gone ++ l) written ∙ append-nil at.gone in
        record {
          begin = begin;
          lines = read;
          are = are;
          pairs = at.pairs;
          texts = at.texts;
          market = h.session.market;
          desks = h.session.talk.desks;
          hosted = at.hosted;
          gained = subst (λ (l : Texts). Gains ⊥ first out l) (sym all) at.gained;
          file = subst (λ (l : Entries). HasEntriesOf held begin l h.session.market start now) (sym same) (entries_of h.book now at.safe at.waiting h.session.market at.file empty);
        }

    module _ (limit : ℕ) (w : WindowState) (content left : Option (List ℕ)) (gone : HasGone begin limit w content left read) (none : h.group ≡ []) (written : drop h.written h.session.talk.texts ≡ []) (new : WindowState) (rest : Option (List ℕ)) where
      -- the input ended
      pub comes_ended : (found : Next) → (found ≡ next.Last) ⊎ ((found ≡ next.LongLast) ⊎ (found ≡ next.End)) → FindsNextWithin most_envelope w new left rest found → ComesTo limit held content rest start now first out (Ok tt)
      comes_ended found which finds = (has_answered _ (all_lines begin limit w content left read gone new rest found which finds) none written, none_left begin limit w content left read gone new rest found which finds)

      -- it has more than the limit
      pub comes_limit : FindsNextWithin most_envelope w new left rest next.Limit → ComesTo limit held content rest start now first out (Err TooLong)
      comes_limit finds = has_answered _ (limit_lines begin limit w content left read gone new rest finds) none written

      -- a read failed
      pub comes_unread : FindsNoFeed w left rest → ComesTo limit held content rest start now first out (Err Read)
      comes_unread finds = inl (has_answered _ (read_lines begin limit w content left read gone new rest finds) none written)

    -- ---- it stopped at an entry of the file

    module _ (limit : ℕ) (content rest : Option (List ℕ)) (then : DiskState) (is_disk : IsDisk now) (line : List ℕ) (are_read : AreFirst limit content begin read) (are : AreFirst limit content begin (read ++ line ∷ [])) (mid : HostState)
        (One : Type 0) (after : Output) (SameOut : Type 0) (carry_out : SameOut → (P : Output → Type 0) → P out → P after) where
      why_known : (Why : ℕ → Market → List Command → ℕ → List ℕ → Type 0) (s : StopsWithin line h mid now then Why) → Why (length (at.pairs ++ s.taken) + 1) mid.session.market s.next s.later held
      why_known Why s =
          let along = (along_first begin start first read h now then out at line mid Why s).1 in
          let same : h.session.entries + (length s.taken + 1) ≡ length (at.pairs ++ s.taken) + 1 = omega (arith, at.entries, length-append at.pairs s.taken) in
          subst (λ (n : ℕ). Why n mid.session.market s.next s.later held) same
          (subst (λ (o : Option (List ℕ)). IfSome o (Why (h.session.entries + (length s.taken + 1)) mid.session.market s.next s.later)) (along.looks.content ∙ told) s.why)

      stops_at : (Why : ℕ → Market → List Command → ℕ → List ℕ → Type 0) (s : StopsWithin line h mid now then Why) (Because : ℕ → Entries → Market → List Command → Type 0) → Because s.later (at.pairs ++ s.taken) mid.session.market s.next
          → Gains ⊥ out after (drop mid.written mid.session.talk.texts) → StopsAtEntry limit held content start then first after Because
      stops_at Why s Because why gained = record {
        begin = begin;
        lines = read;
        line = line;
        are = are;
        next = s.next;
        asks = s.asks;
        pairs = at.pairs ++ s.taken;
        texts = at.texts ++ s.texts;
        market = mid.session.market;
        desks = mid.session.talk.desks;
        hosted = served_into begin start first read h now then out at line mid Why s;
        gained = subst (λ (l : Texts). Gains ⊥ first after l) (sym (left_within begin start first read h now then out at line mid Why s))
            (gains_more ⊥ first out after at.gone (drop mid.written mid.session.talk.texts) at.gained gained);
        place = s.later;
        file = read_to s.later s.piece then (at.pairs ++ s.taken) mid.session.market (along_then begin start first read h now then out at line mid Why s is_disk);
        why = why;
      }

      abbrev Comes : HostFault → Type 0
      Comes result = ComesTo limit held content rest start then first after (Err result)

      -- at an entry of the file all texts were written, or a write failed
      from_here : (Why : ℕ → Market → List Command → ℕ → List ℕ → Type 0) → StopsWithin line h mid now then Why → (fault result : HostFault) → IsAtEntry fault → StopsHere fault result mid out after SameOut
          → (Gains ⊥ out after (drop mid.written mid.session.talk.texts) → Comes fault) → Comes result
      from_here Why s fault result at_entry (inl (not, same, quiet)) f = absurd (not at_entry)
      from_here Why s fault result at_entry (inr (is, inl (same, gained))) f = subst Comes (sym same) (f gained)
      from_here Why s fault result at_entry (inr (is, inr (write, count, gained))) f =
          subst Comes (sym write) (tells_into begin start held told alone limit content first read h now out at line mid then is_disk are Why s ⊤ after count gained)

      -- nothing more was written
      tells_quiet : SameOut → (after ≡ first) ⊎ TellsFirst ⊥ limit held content first after
      tells_quiet quiet = inr (carry_out quiet (λ o. TellsFirst ⊥ limit held content first o) (tells_gone begin start held told alone limit content first read h now out at are_read))

      -- why a line wasn't heard to its end
      pub comes_stopped : HasTakenBeginning limit content rest → (fault result : HostFault) → BreaksLine fault line h mid now then One → StopsHere fault result mid out after SameOut → ComesTo limit held content rest start then first after (Err result)
      comes_stopped begun Memory result breaks (inl (not, same, quiet)) = subst Comes (sym same) (tells_quiet quiet)
      comes_stopped begun Memory result breaks (inr (never, how)) = absurd never
      comes_stopped begun Disk result breaks (inl (not, same, quiet)) = subst Comes (sym same) (tells_quiet quiet, inr begun)
      comes_stopped begun Disk result breaks (inr (never, how)) = absurd never
      comes_stopped begun (Damaged place) result breaks here =
          let why = why_known (WhyNot (Damaged place)) breaks in
          let because : (breaks.later ≡ place) × IsDamagedAt place held = (why.0, subst (λ (n : ℕ). IsDamagedAt n held) why.0 why.1) in
          from_here (WhyNot (Damaged place)) breaks (Damaged place) result tt here (λ gained. inr (stops_at (WhyNot (Damaged place)) breaks (λ at pairs market next. (at ≡ place) × IsDamagedAt place held) because gained))
      comes_stopped begun (Rejected number) result breaks here =
          let why = why_known (WhyNot (Rejected number)) breaks in
          from_here (WhyNot (Rejected number)) breaks (Rejected number) result tt here
          (λ gained. stops_at (WhyNot (Rejected number)) breaks (λ at pairs market next. (number ≡ length pairs + 1) × IsEntryInvalid held at market) why gained)
      comes_stopped begun (Differs number) result breaks here =
          let why = why_known (WhyNot (Differs number)) breaks in
          from_here (WhyNot (Differs number)) breaks (Differs number) result tt here
          (λ gained. inr (stops_at (WhyNot (Differs number)) breaks (λ at pairs market next. (number ≡ length pairs + 1) × IsEntryOther held at market next) why gained))
      comes_stopped begun Read result breaks here = absurd (why_known (WhyNot Read) breaks)
      comes_stopped begun Write result breaks here = absurd (why_known (WhyNot Write) breaks)
      comes_stopped begun NotDisk result breaks here = absurd (why_known (WhyNot NotDisk) breaks)
      comes_stopped begun NotFlow result breaks here = absurd (why_known (WhyNot NotFlow) breaks)
      comes_stopped begun BadCheckpoint result breaks here = absurd (why_known (WhyNot BadCheckpoint) breaks)
      comes_stopped begun TooLong result breaks here = absurd (why_known (WhyNot TooLong) breaks)

    -- ---- a call failed, or memory ran out

    module _ (limit : ℕ) (content rest : Option (List ℕ)) (begun : HasTakenBeginning limit content rest) (are : AreFirst limit content begin read) where
      abbrev left : Texts
      left = drop h.written h.session.talk.texts

      module _ (end : DiskState) (after : Output) where
        abbrev ComesSo : HostFault → Type 0
        ComesSo fault = ComesTo limit held content rest start end first after (Err fault)

        tells_still : after ≡ out → TellsFirst ⊥ limit held content first after
        tells_still same = subst (TellsFirst ⊥ limit held content first) (sym same) (tells_gone begin start held told alone limit content first read h now out at are)

        tells_some : (Cut : Type 0) (some : ℕ) → Gains Cut out after (take some left) → TellsFirst Cut limit held content first after
        tells_some Cut some gained = tells_more begin start held told alone limit content first read h now out at are Cut after some gained

        -- entries that wait weren't kept, or texts not written
        comes_group : (host next : HostState) (mid : DiskState) (Same : Type 0) → unwritten host ≡ left → (fault : HostFault) → BreaksGroup fault host next mid end out after Same → ComesSo fault
        comes_group host next mid Same all Disk (same, some, leaves) = (inr (tells_still same), inr begun)
        comes_group host next mid Same all Write (keeps, (count, within, gained)) = tells_some ⊤ count (subst (λ (l : Texts). Gains ⊤ out after (take count l)) all gained)
        comes_group host next mid Same all Read never = absurd never
        comes_group host next mid Same all Memory never = absurd never
        comes_group host next mid Same all NotDisk never = absurd never
        comes_group host next mid Same all (Damaged place) never = absurd never
        comes_group host next mid Same all (Rejected number) never = absurd never
        comes_group host next mid Same all NotFlow never = absurd never
        comes_group host next mid Same all BadCheckpoint never = absurd never
        comes_group host next mid Same all TooLong never = absurd never
        comes_group host next mid Same all (Differs number) never = absurd never

        pub comes_broken : (next : HostState) (Same : Type 0) (fault : HostFault) → BreaksGroup fault h next now end out after Same → ComesSo fault
        comes_broken next Same fault breaks = comes_group h next now Same (unwritten_all h at.all_told) fault breaks

        -- a line wasn't ended
        pub comes_unended : (line : List ℕ) (mid next : HostState) (then : DiskState) (One Same SameOut : Type 0) → HearsLine line h mid now then One → (SameOut → (P : Output → Type 0) → P out → P after) → (fault : HostFault)
            → BreaksEnd fault mid next then end out after Same SameOut → ComesSo fault
        comes_unended line mid next then One Same SameOut heard carry_out Memory (inl (still, quiet)) =
            inr (carry_out quiet (λ o. TellsFirst ⊥ limit held content first o) (tells_gone begin start held told alone limit content first read h now out at are))
        comes_unended line mid next then One Same SameOut heard carry_out Memory (inr (keeps, gained)) =
            inr (tells_some ⊥ (length left) (subst (λ (l : Texts). Gains ⊥ out after l) (unwritten_heard line h mid now then One heard at.order at.all_told ∙ sym (take_all (length left) left (omega arith))) gained))
        comes_unended line mid next then One Same SameOut heard carry_out Disk breaks = comes_group mid next then Same (unwritten_heard line h mid now then One heard at.order at.all_told) Disk breaks
        comes_unended line mid next then One Same SameOut heard carry_out Write breaks = comes_group mid next then Same (unwritten_heard line h mid now then One heard at.order at.all_told) Write breaks
        comes_unended line mid next then One Same SameOut heard carry_out Read never = absurd never
        comes_unended line mid next then One Same SameOut heard carry_out NotDisk never = absurd never
        comes_unended line mid next then One Same SameOut heard carry_out (Damaged place) never = absurd never
        comes_unended line mid next then One Same SameOut heard carry_out (Rejected number) never = absurd never
        comes_unended line mid next then One Same SameOut heard carry_out NotFlow never = absurd never
        comes_unended line mid next then One Same SameOut heard carry_out BadCheckpoint never = absurd never
        comes_unended line mid next then One Same SameOut heard carry_out TooLong never = absurd never
        comes_unended line mid next then One Same SameOut heard carry_out (Differs number) never = absurd never

    -- memory ran out, and nothing was done
    pub comes_memory : (limit : ℕ) (content rest : Option (List ℕ)) → AreFirst limit content begin read → ComesTo limit held content rest start now first out (Err Memory)
    comes_memory limit content rest are = inr (tells_gone begin start held told alone limit content first read h now out at are)
