-- A file that is read along: it has one entry more, or ends and gets more, or stops.
use Rattle.std.proofs.Common.{◌≡◌, inl, inr, ℕ, ◌+◌, List, [], ◌∷◌, ◌++◌, Option, Some, None, IfSome, IsSome, length, map, refl, sym, subst, ◌∙◌, arith}
use Rattle.wire_records.specs.Records.{Record}
use Rattle.wire_records.specs.Commands.{Pair}
use Rattle.flow_orders.specs.Outcomes.{Outcome}
use Rattle.journal_records.specs.Formats.{records_of}
use Rattle.market_rules.specs.Market.{Market}
use Rattle.market_history.specs.Histories.{Start}
use Rattle.batch_audit.specs.Legal.{IsLegalPair}
use Rattle.disk_edge.specs.Disks.{DiskState, AtEachMoment}
use Rattle.disk_edge.proofs.Moments.{weaker}
use Rattle.journal_disk.specs.declared.fault.DiskFault.{DiskFault}
use Rattle.journal_disk.specs.declared.fault.DiskFault.TheVariants as unread
use Rattle.journal_disk.specs.Pairs.{RecordPair, IsRecordPair, pair_bytes}
use Rattle.journal_disk.specs.Entries.{Head, entries, IsNewDisk, HasEntries, Holds, EndsAt, Keeps}
use Rattle.journal_disk.specs.Ahead.{AheadState, IsPiece}
use Rattle.journal_disk.specs.Stepping.{HasEntryAt, StatesAt, IsClosedAt, IsDamagedAt}
use Rattle.journal_disk.proofs.GoingOn.{looks_hold, looks_more, entry_holds, step_ends}
use Rattle.journal_disk.specs.Recovering.{IsForeign}
use Rattle.journal_keeping.specs.Starts.{head_of}
use Rattle.journal_keeping.specs.Faults.{of_disk}
use Rattle.journal_keeping.specs.Keeping.{HoldsLegal, StandsForJournal}
use Rattle.journal_keeping.specs.Openings.{Legal, IsOpening}
use Rattle.journal_keeping.specs.Auditing.{StopsAs}
use Rattle.journal_keeping.specs.Beginning.{WhileOpening}
use Rattle.journal_keeping.proofs.Auditing.{by_both, one_read, stops_finding, stops_damaged}
use Rattle.journal_keeping.proofs.Begun.{looks_first, opened_old}
use Rattle.desk_opening.specs.declared.book.Book.TheVariants.{Kept}
use Rattle.desk_opening.specs.Books.{CanFind, FindsOne, LeavesThese, EndsFinding, FindsNothing, Continues, IsReadAlong, GetsMore}

abbrev Pairs : Type 0
Pairs = List (Pair Record Outcome)

-- what a fact about the bytes says of the same bytes
moved : (content now : Option (List ℕ)) (P : List ℕ → Type 0) → now ≡ content → IfSome content P → IfSome now P
moved content now P same is = subst (λ (o : Option (List ℕ)). IfSome o P) (sym same) is

module _ (begin : Start) (start mid : DiskState) (pairs : Pairs) (market : Market) where
  over : (o : Option (List ℕ)) (P Q : Type 0) → (P → Q) → IfSome o (λ _. P) → IfSome o (λ _. Q)
  over None P Q f p = tt
  over (Some bytes) P Q f p = f p

  module _ (place : ℕ) (ahead : AheadState) (along : IsReadAlong begin place ahead start mid pairs market) where
    abbrev IsHeld : DiskState → Type 0
    IsHeld disk = (left : List ℕ) × Holds (head_of begin) (map records_of pairs) place left disk

    -- the clauses of a call that lends the entry that was found
    abbrev pub IsLent : ℕ → RecordPair → Type 0
    IsLent count pair = IsRecordPair pair × (length (pair_bytes pair) ≡ count) × ((bytes : List ℕ) → IsPiece ahead bytes → StatesAt place count bytes → (rest : List ℕ) × HasEntryAt place pair rest bytes)

    abbrev pub IsBroken : ℕ → DiskFault → Type 0
    IsBroken count fault = (fault ≡ unread.Damaged place) × ((bytes : List ℕ) → IsPiece ahead bytes → StatesAt place count bytes → IsDamagedAt place bytes)

    -- it can be asked for its next entry
    pub along_finds : CanFind (Kept place ahead) mid
    along_finds = (along.piece, over mid.content (IsHeld mid) ((head : Head) × (read : List RecordPair) × (left : List ℕ) × Holds head read place left mid) (λ h. (head_of begin, map records_of pairs, h.0, h.1)) along.holds)

    -- an entry was found: the same were read
    pub found_along : (count : ℕ) (next : AheadState) (now : DiskState) → FindsOne place count next mid now → IsReadAlong begin place next start now pairs market
    found_along count next now found = record {
      journal = along.journal;
      looks = looks_more start mid now along.looks found.looks;
      known = along.known;
      piece = found.piece;
      holds = moved mid.content now.content (λ _. IsHeld now) found.looks.content
          (over mid.content (IsHeld mid) (IsHeld now) (λ h. (h.0, looks_hold (head_of begin) (map records_of pairs) place h.0 mid now h.1 found.looks)) along.holds);
    }

    -- what was taken is there
    there : (count : ℕ) (pair : RecordPair) → IfSome mid.content (StatesAt place count) → IsLent count pair → IfSome mid.content (λ bytes. (rest : List ℕ) × HasEntryAt place pair rest bytes)
    there count pair states lent = by_both mid.content mid.content (StatesAt place count) (IsPiece ahead) (λ bytes. (rest : List ℕ) × HasEntryAt place pair rest bytes) refl states along.piece lent.2

    -- the entries that were read, and the one that was lent
    one_held : (count next : ℕ) (pair : RecordPair) (more : Pairs) → IsLent count pair → next ≡ place + (5 + count) → map records_of pairs ++ pair ∷ [] ≡ map records_of more → IfSome mid.content (λ bytes. (rest : List ℕ) × HasEntryAt place pair rest bytes)
        → (o : Option (List ℕ)) → IfSome o (λ _. IsHeld mid) → IfSome o (λ _. (left : List ℕ) × Holds (head_of begin) (map records_of more) next left mid)
    one_held count next pair more lent moves is stands None h = tt
    one_held count next pair more lent moves is stands (Some bytes) h =
        let now = entry_holds (head_of begin) (map records_of pairs) place h.0 mid h.1 pair next stands (omega (arith, moves, lent.1)) in
        (now.0, subst (λ (l : List RecordPair). Holds (head_of begin) l next now.0 mid) is now.1)

    -- a valid entry was lent: one more was read
    pub one_along : (count next : ℕ) (pair : RecordPair) (new : Market) → IfSome mid.content (StatesAt place count) → IsLent count pair → next ≡ place + (5 + count) → IsLegalPair market pair new
        → (more : Pairs) × IsReadAlong begin next ahead start mid more new × (length more ≡ length pairs + 1) × (map records_of pairs ++ pair ∷ [] ≡ map records_of more)
    one_along count next pair new states lent moves legal =
        let one = one_read begin pairs market new pair along.journal lent.0 legal in
        let read : IsReadAlong begin next ahead start mid one.0 new = record {
          journal = one.1;
          looks = along.looks;
          known = along.known;
          piece = along.piece;
          holds = one_held count next pair one.0 lent moves one.3 (there count pair states lent) mid.content along.holds;
        } in
        (one.0, read, one.2, one.3)

    module _ (bytes : List ℕ) (told : mid.content ≡ Some bytes) where
      held_now : IsHeld mid
      held_now = subst (λ (o : Option (List ℕ)). IfSome o (λ _. IsHeld mid)) told along.holds

      known_now : (P : List ℕ → Type 0) → P bytes → IfSome mid.content P
      known_now P p = subst (λ (o : Option (List ℕ)). IfSome o P) (sym told) p

      -- nothing was found: damage after the entries that were read, if the fault says so
      pub stops_along : (now : DiskState) (fault : DiskFault) → FindsNothing place mid now fault → StopsAs begin (of_disk fault) bytes
      stops_along now fault nothing = stops_finding begin pairs market place held_now.0 bytes mid along.journal held_now.1 told fault nothing.why

      -- what was found is no complete entry
      pub broken_along : (count : ℕ) (fault : DiskFault) → StatesAt place count bytes → IsPiece ahead bytes → IsBroken count fault → StopsAs begin (of_disk fault) bytes
      broken_along count fault states piece not =
          subst (λ (f : DiskFault). StopsAs begin (of_disk f) bytes) (sym not.0)
          (stops_damaged begin pairs market place held_now.0 bytes mid along.journal held_now.1 told (known_now (IsDamagedAt place) (not.1 bytes piece states)))

    -- none is left
    module _ (closed : IfSome mid.content (IsClosedAt place)) where
      ends_there : IsHeld mid → EndsAt (head_of begin) (map records_of pairs) place mid
      ends_there h = step_ends (head_of begin) (map records_of pairs) place h.0 mid h.1 [] closed

      has_these : (held : List ℕ) → mid.content ≡ Some held → IsHeld mid → HasEntries (head_of begin) (map records_of pairs) held
      has_these held told h =
          let at = ends_there h in
          let both : Some held ≡ Some (entries (head_of begin) (map records_of pairs) ++ at.0 ∷ at.2) = sym told ∙ at.4.content in
          record { lawful = at.4.lawful; each = at.4.each; commit = at.0; shut = at.1; rest = at.2; few = at.3; encoded = cc }

      pub opens_so : (held : List ℕ) → mid.content ≡ Some held → IsHeld mid → (¬ IsNewDisk held) × (¬ IsForeign held) → IsOpening held (Legal begin pairs market)
      opens_so held told h known = (known.0, known.1, along.journal, has_these held told h)

      -- what a crash leaves of it while it is being cut: just these entries
      pub cutting : (now : DiskState) → LeavesThese place mid now → (was : Start) (legal : Pairs) (m : Market) → HoldsLegal start was legal m → AtEachMoment start now (WhileOpening begin start legal)
      cutting now leaves was legal m holds =
          let told : mid.content ≡ Some holds.bytes = along.looks.content ∙ holds.told in
          let h = subst (λ (o : Option (List ℕ)). IfSome o (λ _. IsHeld mid)) told along.holds in
          let known = subst (λ (o : Option (List ℕ)). IfSome o (λ (l : List ℕ). (¬ IsNewDisk l) × (¬ IsForeign l))) holds.told along.known in
          let same = opened_old start was legal m holds holds.bytes holds.told begin pairs market (opens_so holds.bytes told h known) in
          looks_first begin legal start mid now along.looks
          (weaker mid now _ _ (λ image stands. inr (inl (subst (λ (l : Pairs). StandsForJournal begin l image) (sym same.1) stands))) (leaves (head_of begin) (map records_of pairs) h.0 h.1))

    -- the file gets more
    module _ (now : DiskState) (ends : EndsFinding place mid now) where
      abbrev IsKept : Type 0
      IsKept = Keeps (head_of begin) (map records_of pairs) place now

      continued : (o : Option (List ℕ)) → mid.content ≡ o → IfSome o (λ _. IsHeld mid) → IfSome o (λ held. (¬ IsNewDisk held) × (¬ IsForeign held)) → IfSome o (λ held. IsOpening held (Legal begin pairs market))
      continued None told h known = tt
      continued (Some held) told h known = opens_so ends.closed held told h known

      abbrev start_holds : IfSome start.content (λ _. IsHeld mid)
      start_holds = subst (λ (o : Option (List ℕ)). IfSome o (λ _. IsHeld mid)) along.looks.content along.holds

      as_before : (o : Option (List ℕ)) → IfSome o (λ held. IsOpening held (Legal begin pairs market)) → IfSome o (λ held. Continues held begin pairs market)
      as_before None is = tt
      as_before (Some held) is = inl is

      pub ends_along : GetsMore begin place start now pairs market
      ends_along = record {
        journal = along.journal;
        continues = as_before start.content (continued start.content along.looks.content start_holds along.known);
        keeps = over start.content (IsHeld mid) IsKept (λ h. ends.keeps (head_of begin) (map records_of pairs) h.0 h.1) start_holds;
        moments = cutting ends.closed now ends.moments;
        told = λ is. subst (λ (o : Option (List ℕ)). IsSome o) along.looks.content (ends.told is);
        near = ends.near;
      }
