-- Hosting that a failed call, or memory that ran out, ends: what was written are the answers of first lines, by entries of the file.
use Rattle.std.proofs.Common.{◌≡◌, inl, inr, ℕ, ◌+◌, List, [], ◌∷◌, ◌++◌, Option, Some, IfSome, length, length-append, map, take, drop, take-append-drop, sym, ap, subst, ◌∙◌, arith, append_assoc}
use Rattle.std.proofs.lemmas.List.{append-nil}
use Rattle.std.proofs.Math.Seq.{take-append-add}
use Rattle.wire_records.specs.Commands.{Command}
use Rattle.wire_records.specs.Versions.{IsReadAs}
use Rattle.wire_records.proofs.Readings.{reading_unique}
use Rattle.canonical_rule.specs.Canonical.{IsCanonicalOutcome}
use Rattle.flow_orders.specs.Outcomes.{IsAdmissibleOutcome}
use Rattle.journal_records.specs.Formats.{records_of}
use Rattle.market_rules.specs.Market.{Market}
use Rattle.market_rules.proofs.OneJournal.{follows-append}
use Rattle.market_history.specs.Histories.{Start, market_of}
use Rattle.disk_edge.specs.Disks.{DiskState, IsDisk}
use Rattle.journal_disk.specs.Entries.{entries, IsNewDisk, Holds}
use Rattle.journal_disk.specs.Recovering.{IsForeign}
use Rattle.journal_disk.specs.Ahead.{AheadState}
use Rattle.journal_keeping.specs.Starts.{head_of}
use Rattle.journal_keeping.specs.Outputs.{Output, Gains}
use Rattle.journal_keeping.proofs.Gaining.{gains_more}
use Rattle.desk_session.proofs.Going.{first_texts_into}
use Rattle.desk_opening.specs.declared.book.Book.{Book}
use Rattle.desk_opening.specs.declared.book.Book.TheVariants.{Kept, Open}
use Rattle.desk_opening.specs.Books.{IsReadAlong, Continues}
use Rattle.desk_opening.specs.Openings.{BeginsAlone}
use Rattle.desk_keeping.specs.Hosting.{Entries, Texts, desks_of, AreFirstHosted, HasUpTo, AreOfFile, TellsFirst}
use Rattle.desk_keeping.specs.Private.{HostState, IsFileAt, IsAt, StopsWithin}
use Rattle.desk_keeping.proofs.Ending.{AreFirst, told_first, more_first, take_within}
use Rattle.desk_keeping.proofs.Stopped.{served_into, left_within, along_then}

module _ (begin : Start) (start : DiskState) (held : List ℕ) (told : start.content ≡ Some held) (alone : IfSome start.content (BeginsAlone begin)) where
  known_so : (P : List ℕ → Type 0) → IfSome start.content P → P held
  known_so P is = subst (λ (o : Option (List ℕ)). IfSome o P) told is

  -- what a file holds that is read along
  pub held_along : (place : ℕ) (ahead : AheadState) (now : DiskState) (pairs : Entries) (market : Market) → IsReadAlong begin place ahead start now pairs market
      → (rest : List ℕ) × Holds (head_of begin) (map records_of pairs) place rest now × (held ≡ entries (head_of begin) (map records_of pairs) ++ rest)
  held_along place ahead now pairs market along =
      let same : now.content ≡ Some held = along.looks.content ∙ told in
      let (rest, has) = subst (λ (o : Option (List ℕ)). IfSome o (λ _. (left : List ℕ) × Holds (head_of begin) (map records_of pairs) place left now)) same along.holds in
      let both : Some held ≡ Some (entries (head_of begin) (map records_of pairs) ++ rest) = sym same ∙ has.content in
      (rest, has, cc)

  -- it has the entries that were read
  pub up_to : (place : ℕ) (ahead : AheadState) (now : DiskState) (pairs : Entries) (market : Market) → IsReadAlong begin place ahead start now pairs market → HasUpTo held begin pairs market place
  up_to place ahead now pairs market along =
      let (rest, has, encoded) = held_along place ahead now pairs market along in
      let known = known_so (λ bytes. (¬ IsNewDisk bytes) × (¬ IsForeign bytes)) along.known in
      record {
        is_old = known.0;
        is_file = known.1;
        alone = known_so (BeginsAlone begin) alone;
        legal = record { lawful = has.lawful; journal = along.journal; rest = rest; encoded = encoded; begins = has.begins };
      }

  -- all entries that lines asked for are of the file
  entries_of : (b : Book) (now : DiskState) (safe waiting : Entries) (market : Market) → IsFileAt begin start b now safe waiting market → AreOfFile held begin (safe ++ waiting)
  entries_of (Kept place ahead) now safe waiting market (none, along) =
      inl (market, place, subst (λ (l : Entries). HasUpTo held begin l market place) (sym (ap (λ (l : Entries). safe ++ l) none ∙ append-nil safe)) (up_to place ahead now safe market along))
  entries_of (Open place) now safe waiting market file =
      inr (
        file.old,
        file.kept ++ waiting,
        file.opened,
        market,
        ap (λ (l : Entries). l ++ waiting) file.parts ∙ append_assoc file.old file.kept waiting,
        known_so (λ bytes. Continues bytes begin file.old file.opened) file.continues,
        follows-append IsReadAs reading_unique IsCanonicalOutcome file.opened file.between market file.kept waiting file.goes_on.steps file.steps,
      )

  module _ (limit : ℕ) (content : Option (List ℕ)) (first : Output) where
    -- the first of these texts were written
    tells_so : (Cut : Type 0) (lines : List (List ℕ)) (pairs : Entries) (count : ℕ) (texts : Texts) (later : Output) → AreFirst limit content begin lines → AreOfFile held begin pairs → AreFirstHosted begin lines (take count pairs) texts
        → Gains Cut first later texts → TellsFirst Cut limit held content first later
    tells_so Cut lines pairs count texts later are file answered gained = record {
      begin = begin;
      lines = lines;
      are = are;
      pairs = take count pairs;
      others = drop count pairs;
      file = subst (AreOfFile held begin) (sym (take-append-drop count pairs)) file;
      texts = texts;
      answered = answered;
      gained = gained;
    }

    module _ (read : List (List ℕ)) (h : HostState) (now : DiskState) (out : Output) (at : IsAt begin start first read h now out) where
      all_of : AreOfFile held begin at.pairs
      all_of = subst (AreOfFile held begin) (sym at.parts) (entries_of h.book now at.safe at.waiting h.session.market at.file)

      module _ (are : AreFirst limit content begin read) where
        -- no more texts were written
        pub tells_gone : TellsFirst ⊥ limit held content first out
        tells_gone =
            let (count, within, answered, all) = told_first begin start read at.gone at.safe at.waiting at.pairs at.parts at.told in
            tells_so ⊥ read at.pairs count at.gone out are all_of answered at.gained

        -- so many were
        pub tells_more : (Cut : Type 0) (after : Output) (some : ℕ) → Gains Cut out after (take some (drop h.written h.session.talk.texts)) → TellsFirst Cut limit held content first after
        tells_more Cut after some gained =
            let left : Texts = drop h.written h.session.talk.texts in
            let (count, within, answered) = more_first begin read at.pairs at.texts at.gone left h.session.market h.session.talk.desks at.hosted at.said some in
            tells_so Cut read at.pairs count (at.gone ++ take some left) after are all_of answered (gains_more Cut first out after at.gone (take some left) at.gained gained)

      -- of a line at which it stopped too
      module _ (line : List ℕ) (mid : HostState) (then : DiskState) (is_disk : IsDisk now) (are_line : AreFirst limit content begin (read ++ line ∷ [])) (Why : ℕ → Market → List Command → ℕ → List ℕ → Type 0) (s : StopsWithin line h mid now then Why) where
        pub tells_into : (Cut : Type 0) (after : Output) (some : ℕ) → Gains Cut out after (take some (drop mid.written mid.session.talk.texts)) → TellsFirst Cut limit held content first after
        tells_into Cut after some gained =
            let others : Texts = drop mid.written mid.session.talk.texts in
            let said = left_within begin start first read h now then out at line mid Why s in
            let into = served_into begin start first read h now then out at line mid Why s in
            let (k, within, same) = take_within some others in
            let (count, small, answered) =
            first_texts_into IsAdmissibleOutcome (market_of begin) mid.session.market (desks_of begin) mid.session.talk.desks 0 read line [] s.next (at.pairs ++ s.taken) (at.texts ++ s.texts) into (length at.gone + k)
            (omega (arith, within, ap length said, length-append at.gone others))
            in
            let texts_are : take (length at.gone + k) (at.texts ++ s.texts) ≡ at.gone ++ take some others = ap (take (length at.gone + k)) said ∙ take-append-add at.gone others k ∙ ap (λ (l : Texts). at.gone ++ l) (sym same) in
            let along = along_then begin start first read h now then out at line mid Why s is_disk in
            tells_so Cut (read ++ line ∷ []) (at.pairs ++ s.taken) count (at.gone ++ take some others) after are_line (inl (mid.session.market, s.later, up_to s.later s.piece then (at.pairs ++ s.taken) mid.session.market along))
            (subst (λ (l : Texts). AreFirstHosted begin (read ++ line ∷ []) (take count (at.pairs ++ s.taken)) l) texts_are answered) (gains_more Cut first out after at.gone (take some others) at.gained gained)
