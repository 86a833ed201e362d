-- A file that is opened: its first entry that is one of the journal is found, or isn't.
use Rattle.std.proofs.Common.{◌≡◌, ◌⊎◌, ⊎_elim, inl, inr, ℕ, List, [], ◌++◌, length, Option, Some, None, IfSome, Result, Ok, drop, refl, sym, ap, subst, ◌∙◌}
use Rattle.wire_records.specs.declared.version.Version.{Version}
use Rattle.market_rules.specs.Market.{Market}
use Rattle.market_history.specs.Histories.{Start, Empty, Kept, market_of}
use Rattle.disk_edge.specs.Disks.{DiskState}
use Rattle.journal_disk.specs.declared.fault.DiskFault.{DiskFault}
use Rattle.journal_disk.specs.declared.fault.DiskFault.TheVariants as disk
use Rattle.journal_disk.specs.Entries.{Holds, entries}
use Rattle.journal_disk.specs.Ahead.{AheadState, IsPiece}
use Rattle.journal_disk.specs.Pairs.{RecordPair}
use Rattle.journal_disk.specs.Stepping.{HasEntryAt, StatesAt, IsClosedAt, IsDamagedAt, FindsNone, Finds}
use Rattle.journal_disk.proofs.Excluding.{entry_not_damaged, closed_not_damaged}
use Rattle.journal_disk.specs.Recovering.{IsForeign, IsFound}
use Rattle.journal_disk.specs.Looking.{OnlyLooks}
use Rattle.journal_disk.proofs.GoingOn.{looks_hold}
use Rattle.journal_keeping.specs.declared.fault.OpenFault.{OpenFault}
use Rattle.journal_keeping.specs.declared.fault.OpenFault.TheVariants.{Disk, Memory, NotDisk, Damaged, Rejected}
use Rattle.journal_keeping.specs.Faults.{of_disk}
use Rattle.journal_keeping.specs.Starts.{head_of}
use Rattle.journal_keeping.specs.Openings.{IsOpening, BeginsLegal}
use Rattle.journal_keeping.specs.Openings as opening
use Rattle.journal_keeping.specs.Beginning.{BeginsAt, StopsFirst, OpensNot}
use Rattle.journal_keeping.proofs.Auditing.{none_read}
use Rattle.journal_keeping.proofs.Beginnings.{bare_place}
use Rattle.journal_keeping.proofs.Begun.{first_known}
use Rattle.journal_keeping.proofs.Counts.{if_some, if_both}
use Rattle.desk_opening.specs.Openings.{IsUnopened, IsNoBook}
use Rattle.desk_opening.specs.Private.{BeginsSomehow}

-- what is known of a disk's bytes is known of them later, if the disk was only looked at
pub still : (start now : DiskState) (P : List ℕ → Type 0) → OnlyLooks start now → IfSome start.content P → IfSome now.content P
still start now P looks has = subst (λ (o : Option (List ℕ)). IfSome o P) (sym looks.content) has

-- ---- a file of a version

-- the clauses of the search for its first entry
abbrev pub FindsBeginning : Version → Market → ℕ → DiskState → DiskState → Type 0
FindsBeginning version market place mid now = (rest bytes : List ℕ) → mid.content ≡ Some bytes → Holds (record { version = version; first = None }) [] 8 rest mid → BeginsAt version bytes market place now

abbrev pub FindsNoBeginning : Version → OpenFault → DiskState → Type 0
FindsNoBeginning version fault mid = (rest bytes : List ℕ) → mid.content ≡ Some bytes → Holds (record { version = version; first = None }) [] 8 rest mid → StopsFirst fault bytes

module _ (version : Version) (start mid : DiskState) (looks : OnlyLooks start mid) (found : IfSome start.content (λ held. IsFound (Some version) held start)) where
  -- it was found
  pub file_begins : (now : DiskState) (market : Market) (place : ℕ) → OnlyLooks mid now → FindsBeginning version market place mid now → IfSome now.content (BeginsSomehow version place now)
  file_begins now market place on begins = still mid now _ on (still start mid _ looks (by_cases start.content refl found))
    where
      by_cases : (o : Option (List ℕ)) → start.content ≡ o → IfSome o (λ held. IsFound (Some version) held start) → IfSome o (BeginsSomehow version place now)
      by_cases None told is = tt
      by_cases (Some held) told is =
          (is.0, is.1, market, begins (drop 8 held) held (looks.content ∙ told) (looks_hold (head_of (Empty version)) [] 8 (drop 8 held) start mid is.2 looks))

  -- it wasn't
  module _ (fault : OpenFault) (stops : FindsNoBeginning version fault mid) where
    stops_so : IfSome start.content (StopsFirst fault)
    stops_so = by_cases start.content refl found
      where
        by_cases : (o : Option (List ℕ)) → start.content ≡ o → IfSome o (λ held. IsFound (Some version) held start) → IfSome o (StopsFirst fault)
        by_cases None told is = tt
        by_cases (Some held) told is = stops (drop 8 held) held (looks.content ∙ told) (looks_hold (head_of (Empty version)) [] 8 (drop 8 held) start mid is.2 looks)

    opens_not : IfSome start.content (λ held. OpensNot held mid fault)
    opens_not =
        first_known version start.content mid mid fault (sym looks.content) refl
        (if_some start.content _ _ (λ (held : List ℕ) is. (is.0, is.1, looks_hold (head_of (Empty version)) [] 8 (drop 8 held) start mid is.2 looks)) found) stops

    pub file_stops : (fault ≡ Disk) ⊎ ((fault ≡ Memory) ⊎ (fault ≡ Damaged 8)) → IsUnopened start.content fault
    file_stops = of_fault fault stops_so opens_not
      where
        is_eight : (place : ℕ) → (Damaged place ≡ Disk) ⊎ ((Damaged place ≡ Memory) ⊎ (Damaged place ≡ Damaged 8)) → place ≡ 8
        is_eight place refused = elim refused [ inl e ↦ absurd cc | inr others ↦ elim others [ inl e ↦ absurd cc | inr e ↦ cc ] ]

        of_fault : (f : OpenFault) → IfSome start.content (StopsFirst f) → IfSome start.content (λ held. OpensNot held mid f)
            → (f ≡ Disk) ⊎ ((f ≡ Memory) ⊎ (f ≡ Damaged 8)) → IsUnopened start.content f
        of_fault Disk why not refused = tt
        of_fault Memory why not refused = tt
        of_fault NotDisk why not refused = absurd (elim refused [ inl e ↦ cc | inr others ↦ elim others [ inl e ↦ cc | inr e ↦ cc ] ])
        of_fault (Rejected number) why not refused = absurd (elim refused [ inl e ↦ cc | inr others ↦ elim others [ inl e ↦ cc | inr e ↦ cc ] ])
        of_fault (Damaged place) why not refused =
            let eight = is_eight place refused in
            let damaged = if_both start.content (StopsFirst (Damaged place)) (λ held. OpensNot held mid (Damaged place)) (λ held. IsOpening held (opening.Damaged 8)) (λ held w n. subst (λ (k : ℕ). IsOpening held (opening.Damaged k)) w.0 n.0) why not in
            (subst (λ (k : ℕ). IfSome start.content (λ held. IsOpening held (opening.Damaged k))) (sym eight) damaged, eight)

-- ---- its first entry is seen

-- what was found at the first place
pub found_first : (content : Option (List ℕ)) (first : ℕ) (found : Result (Option ℕ) DiskFault) → first ≡ 8 → IfSome content (Finds found first) → IfSome content (Finds found 8)
found_first content first found eight has = subst (λ (n : ℕ). IfSome content (Finds found n)) eight has

pub states_first : (content : Option (List ℕ)) (first count : ℕ) (found : Option ℕ) → first ≡ 8 → found ≡ Some count → IfSome content (Finds (Ok found) first) → IfSome content (StatesAt 8 count)
states_first content first count found eight is has = subst (λ (o : Option ℕ). IfSome content (Finds (Ok o) 8)) is (found_first content first (Ok found) eight has)

-- an entry was taken, so it is complete
pub whole_first : (content : Option (List ℕ)) (ahead : AheadState) (count : ℕ) (pair : RecordPair) → IfSome content (IsPiece ahead) → IfSome content (StatesAt 8 count)
    → ((bytes : List ℕ) → IsPiece ahead bytes → StatesAt 8 count bytes → (rest : List ℕ) × HasEntryAt 8 pair rest bytes) → IfSome content (λ held. ¬ IsDamagedAt 8 held)
whole_first content ahead count pair piece states has =
    if_both content (IsPiece ahead) (StatesAt 8 count) (λ held. ¬ IsDamagedAt 8 held) (λ held p s. let it = has held p s in entry_not_damaged 8 held pair it.0 it.1) piece states

-- there is none
pub none_first : (content : Option (List ℕ)) → IfSome content (IsClosedAt 8) → IfSome content (λ held. ¬ IsDamagedAt 8 held)
none_first content closed = if_some content (IsClosedAt 8) (λ held. ¬ IsDamagedAt 8 held) (λ held c. closed_not_damaged 8 held c) closed

-- it was refused
pub damaged_first : (content : Option (List ℕ)) (ahead : AheadState) (count : ℕ) → IfSome content (IsPiece ahead) → IfSome content (StatesAt 8 count)
    → ((bytes : List ℕ) → IsPiece ahead bytes → StatesAt 8 count bytes → IsDamagedAt 8 bytes) → IfSome content (IsDamagedAt 8)
damaged_first content ahead count piece states damaged = if_both content (IsPiece ahead) (StatesAt 8 count) (IsDamagedAt 8) (λ held p s. damaged held p s) piece states

-- why it isn't seen: it isn't complete, or a call of the disk failed, or memory ran out
abbrev pub SeesNoFirst : ℕ → Option (List ℕ) → OpenFault → Type 0
SeesNoFirst place content fault = (fault ≡ Disk) ⊎ ((fault ≡ Memory) ⊎ ((fault ≡ Damaged 8) × (place ≡ 8) × IfSome content (IsDamagedAt 8)))

pub not_found : (place : ℕ) (content : Option (List ℕ)) (fault : DiskFault) → place ≡ 8 → IfSome content (FindsNone fault 8) → ((at : ℕ) → fault ≡ disk.Damaged at → at ≡ 8) → (¬ (fault ≡ disk.NotDisk)) → SeesNoFirst place content (of_disk fault)
not_found place content disk.Failed eight why at not = inl refl
not_found place content disk.NotDisk eight why at not = absurd (not refl)
not_found place content (disk.Damaged p) eight why at not =
    inr (inr (ap (λ (n : ℕ). Damaged n) (at p refl), eight, if_some content (FindsNone (disk.Damaged p) 8) (IsDamagedAt 8) (λ held w. w.1) why))
not_found place content disk.Memory eight why at not = inr (inl refl)

module _ (version : Version) (start mid now : DiskState) (looks : OnlyLooks start mid) (on : OnlyLooks mid now) (found : IfSome start.content (λ held. IsFound (Some version) held start))
    (market : Market) (place : ℕ) (begins : FindsBeginning version market place mid now) where
  known : (P : List ℕ → Type 0) → IfSome now.content P → IfSome start.content P
  known P has = subst (λ (o : Option (List ℕ)). IfSome o P) (on.content ∙ looks.content) has

  somehow : IfSome start.content (BeginsSomehow version place now)
  somehow = known (BeginsSomehow version place now) (file_begins version start mid looks found now market place on begins)

  -- the file is one that was found, also after its first entry was seen
  pub file_seen : (later : DiskState) → OnlyLooks now later → IfSome later.content (BeginsSomehow version place later)
  file_seen later then = still now later _ then (if_some now.content (BeginsSomehow version place now) (BeginsSomehow version place later) (λ held f. (
    f.0,
    f.1,
    f.2,
    record {
      begin = f.3.begin;
      starts = f.3.starts;
      market_is = f.3.market_is;
      version_is = f.3.version_is;
      rest = f.3.rest;
      holds = looks_hold (head_of f.3.begin) [] place f.3.rest now later f.3.holds then;
      unfit = f.3.unfit;
    },
  )) (file_begins version start mid looks found now market place on begins))

  -- it isn't refused by its bytes
  pub file_sound : (place ≡ 8 → IfSome now.content (λ held. ¬ IsDamagedAt 8 held)) → IfSome start.content (λ held. ¬ IsNoBook held)
  file_sound whole = by_cases start.content refl somehow (λ eight. known _ (whole eight))
    where
      not_damaged : (held : List ℕ) (begin : Start) (f : BeginsSomehow version place now held) → f.3.begin ≡ begin → now.content ≡ Some held → (place ≡ 8 → ¬ IsDamagedAt 8 held) → ¬ IsOpening held (opening.Damaged 8)
      not_damaged held (Empty v) f is told seen (long, none, (begin, legal, before, begun, damaged, unfit)) =
          seen (subst (λ (b : Start). place ≡ length (entries (head_of b) [])) is f.3.holds.begins ∙ bare_place (Empty v) [] (v, refl, refl)) damaged
      not_damaged held (Kept of) f is told seen (long, none, (begin, legal, before, begun, damaged, unfit)) =
          let at = f.3 in
          let both : Some held ≡ Some (entries (head_of at.begin) [] ++ at.rest) = sym told ∙ at.holds.content in
          unfit refl of place (subst (λ (b : Start). BeginsLegal b held [] (market_of b) place) is (record {
            lawful = at.holds.lawful;
            journal = none_read at.begin (market_of at.begin) at.starts refl;
            rest = at.rest;
            encoded = cc;
            begins = at.holds.begins;
          }))

      by_cases : (o : Option (List ℕ)) → start.content ≡ o → IfSome o (BeginsSomehow version place now) → (place ≡ 8 → IfSome o (λ held. ¬ IsDamagedAt 8 held)) → IfSome o (λ held. ¬ IsNoBook held)
      by_cases None told f seen = tt
      by_cases (Some held) told f seen = λ no. ⊎_elim (λ foreign. f.1 foreign) (λ damaged. not_damaged held f.3.begin f refl (on.content ∙ looks.content ∙ told) seen damaged) no

  -- its first entry was seen, and refused
  pub first_stops : (fault : OpenFault) → SeesNoFirst place now.content fault → IsUnopened start.content fault
  first_stops fault (inl is) = subst (IsUnopened start.content) (sym is) tt
  first_stops fault (inr (inl is)) = subst (IsUnopened start.content) (sym is) tt
  first_stops fault (inr (inr (is, eight, damaged))) =
      subst (IsUnopened start.content) (sym is) (file_stops version start mid looks found (Damaged 8) (λ rest bytes told holds.
      let same : now.content ≡ Some bytes = on.content ∙ told in (
        refl,
        subst (λ (o : Option (List ℕ)). IfSome o (IsDamagedAt 8)) same damaged,
        (begins rest bytes told holds).unfit eight,
      )) (inr (inr refl)))

-- a new file isn't refused by its bytes
pub new_sound : (start : DiskState) → IfSome start.content (λ held. IsFound None held start) → IfSome start.content (λ held. ¬ IsNoBook held)
new_sound start found = if_some start.content _ _ (λ (held : List ℕ) new no. ⊎_elim (λ foreign. new.1 foreign) (λ damaged. damaged.0 new.0) no) found

-- what holds if a file is refused by its bytes: what holds anyhow, and anything if it isn't
pub refused_anyhow : (content : Option (List ℕ)) (P : Type 0) → P → IfSome content (λ held. IsNoBook held → P)
refused_anyhow content P p = by_cases content
  where
    by_cases : (o : Option (List ℕ)) → IfSome o (λ held. IsNoBook held → P)
    by_cases None = tt
    by_cases (Some held) = λ no. p

pub refused_never : (content : Option (List ℕ)) (P : Type 0) → IfSome content (λ held. ¬ IsNoBook held) → IfSome content (λ held. IsNoBook held → P)
refused_never content P sound = if_some content (λ held. ¬ IsNoBook held) (λ held. IsNoBook held → P) (λ held not no. absurd (not no)) sound

-- ---- a file

-- it was only looked at before
pub unopened_first : (start mid : DiskState) (fault : OpenFault) → OnlyLooks start mid → IsUnopened mid.content fault → IsUnopened start.content fault
unopened_first start mid fault looks not = subst (λ (o : Option (List ℕ)). IsUnopened o fault) looks.content not

-- it isn't one of a journal, or a call of it failed
pub not_recovered : (start : DiskState) (fault : DiskFault) → (fault ≡ disk.Failed) ⊎ (fault ≡ disk.NotDisk) → (fault ≡ disk.NotDisk → IfSome start.content IsForeign) → IsUnopened start.content (of_disk fault)
not_recovered start fault (inl is) foreign = subst (λ (f : DiskFault). IsUnopened start.content (of_disk f)) (sym is) tt
not_recovered start fault (inr is) foreign = subst (λ (f : DiskFault). IsUnopened start.content (of_disk f)) (sym is) (foreign is)

-- memory ran out, or a call of it failed
pub not_looked : (content : Option (List ℕ)) (fault : DiskFault) (kept : OpenFault) → kept ≡ of_disk fault → (fault ≡ disk.Failed) ⊎ (fault ≡ disk.Memory) → IsUnopened content kept
not_looked content fault kept is (inl why) = subst (IsUnopened content) (ap of_disk (sym why) ∙ sym is) tt
not_looked content fault kept is (inr why) = subst (IsUnopened content) (ap of_disk (sym why) ∙ sym is) tt
