-- A disk that is opened, up to the commit byte after its entries.
use Rattle.std.proofs.Common.{◌≡◌, ◌⊎◌, ⊎_elim, inl, inr, ℕ, List, [], ◌∷◌, ◌++◌, Option, Some, None, IfSome, Result, Err, length, map, drop, refl, sym, ap, subst, ◌∙◌, arith}
use Rattle.wire_records.specs.Records.{Record}
use Rattle.wire_records.specs.Commands.{Pair}
use Rattle.wire_records.specs.declared.version.Version.{Version}
use Rattle.flow_orders.specs.Outcomes.{Outcome}
use Rattle.journal_records.specs.Formats.{records_of}
use Rattle.market_rules.specs.Market.{Market, empty_market}
use Rattle.market_history.specs.Histories.{Start, Empty, market_of, CanStart}
use Rattle.disk_edge.specs.Disks.{DiskState, AtEachMoment}
use Rattle.disk_edge.proofs.Moments.{weaker, then_more}
use Rattle.disk_edge.specs.Images.{LeavesOnly}
use Rattle.journal_disk.specs.declared.fault.DiskFault.{DiskFault}
use Rattle.journal_disk.specs.declared.fault.DiskFault.TheVariants as disk
use Rattle.journal_disk.specs.Pairs.{RecordPair}
use Rattle.journal_disk.specs.Entries.{Head, entries, HasEntries, IsNewDisk, StandsFor, Holds, EndsAt, Keeps}
use Rattle.journal_disk.specs.Looking.{OnlyLooks}
use Rattle.journal_disk.specs.Recovering.{IsForeign, IsFound}
use Rattle.journal_disk.specs.Stepping.{IsDamagedAt}
use Rattle.journal_disk.proofs.Entries.{length-entries, least}
use Rattle.journal_disk.proofs.OneList.{new_none, few_none}
use Rattle.journal_disk.proofs.GoingOn.{looks_hold}
use Rattle.journal_keeping.specs.declared.fault.OpenFault.{OpenFault}
use Rattle.journal_keeping.specs.declared.fault.OpenFault.TheVariants.{Disk, Memory, NotDisk, Damaged, Rejected}
use Rattle.journal_keeping.specs.Faults.{of_disk}
use Rattle.journal_keeping.specs.Starts.{head_of}
use Rattle.journal_keeping.specs.Keeping.{IsKeptJournal, StandsForJournal, HoldsLegal}
use Rattle.journal_keeping.specs.Openings.{Legal, IsOpening, KeepNone}
use Rattle.journal_keeping.specs.Auditing.{StopsAs}
use Rattle.journal_keeping.specs.Beginning.{IsOpened, IsKeptOn, BeginsAt, StopsFirst, OpensNot, WhileOpening, HasFirst}
use Rattle.journal_keeping.proofs.Auditing.{none_read}
use Rattle.journal_keeping.proofs.Opened.{has_them, same_journal}
use Rattle.journal_keeping.proofs.Beginnings.{bare_place, legal_first}

abbrev Pairs : Type 0
Pairs = List (Pair Record Outcome)

-- ---- what the bytes represent

ends_have : (head : Head) (pairs : List RecordPair) (place : ℕ) (disk : DiskState) (bytes : List ℕ) → EndsAt head pairs place disk → disk.content ≡ Some bytes → HasEntries head pairs bytes
ends_have head pairs place disk bytes ends told =
    let both : Some bytes ≡ Some (entries head pairs ++ ends.0 ∷ ends.2) = sym told ∙ ends.4.content in
    record { lawful = ends.4.lawful; each = ends.4.each; commit = ends.0; shut = ends.1; rest = ends.2; few = ends.3; encoded = cc }

-- ---- what is refused

-- the first entry isn't an entry, and holds no checkpoint of the version
pub first_opened : (version : Version) (rest held : List ℕ) (next : DiskState) (fault : OpenFault) → (¬ IsNewDisk held) → (¬ IsForeign held) → next.content ≡ Some held → held ≡ entries (head_of (Empty version)) [] ++ rest → StopsFirst fault held → OpensNot held next fault
first_opened version rest held next Disk long known same is stops = tt
first_opened version rest held next Memory long known same is stops = tt
first_opened version rest held next (Damaged place) long known same is stops = (
  (
    long,
    known,
    (
      Empty version,
      [],
      empty_market version,
      record {
        lawful = tt;
        journal = none_read (Empty version) (empty_market version) tt refl;
        rest = rest;
        encoded = is;
        begins = stops.0 ∙ sym (bare_place (Empty version) [] (version, refl, refl));
      },
      subst (λ (n : ℕ). IsDamagedAt n held) (sym stops.0) stops.1,
      λ at first after kept. stops.2 first (legal_first first held after kept),
    ),
  ),
  same,
)
first_opened version rest held next NotDisk long known same is stops = absurd stops
first_opened version rest held next (Rejected number) long known same is stops = absurd stops

-- a later place
first_place : (begin : Start) (pairs : List RecordPair) → length (entries (head_of begin) pairs) ≡ 8 → length (entries (head_of begin) []) ≡ 8
first_place begin pairs at = omega (arith, at, length-entries (head_of begin) pairs, length-entries (head_of begin) [], least (head_of begin) [])

pub stops_opened : (begin : Start) (held : List ℕ) (next : DiskState) (fault : OpenFault) → (¬ IsNewDisk held) → (¬ IsForeign held) → next.content ≡ Some held
    → (length (entries (head_of begin) []) ≡ 8 → (first : Market) → ¬ HasFirst first held) → StopsAs begin fault held → OpensNot held next fault
stops_opened begin held next Disk long known same unfit stops = tt
stops_opened begin held next Memory long known same unfit stops = tt
stops_opened begin held next (Damaged place) long known same unfit stops = (
  (
    long,
    known,
    (begin, stops.0, stops.1, stops.2, stops.3, λ at first after kept. unfit (first_place begin (map records_of stops.0) (sym stops.2.begins ∙ at)) first (legal_first first held after kept)),
  ),
  same,
)
stops_opened begin held next (Rejected number) long known same unfit stops = ((long, known, begin, stops.0, stops.1, stops.2, stops.3, stops.4, stops.5, stops.6, stops.7, stops.8), same)
stops_opened begin held next NotDisk long known same unfit stops = absurd stops

-- what recovering answers says of the bytes
pub not_recovered : (content : Option (List ℕ)) (next : DiskState) (fault : DiskFault) → next.content ≡ content → (fault ≡ disk.Failed) ⊎ (fault ≡ disk.NotDisk) → (fault ≡ disk.NotDisk → IfSome content IsForeign) → IfSome content (λ held. OpensNot held next (of_disk fault))
not_recovered None next fault same why foreign = tt
not_recovered (Some held) next fault same (inl is) foreign = subst (λ (f : DiskFault). OpensNot held next (of_disk f)) (sym is) tt
not_recovered (Some held) next fault same (inr is) foreign = subst (λ (f : DiskFault). OpensNot held next (of_disk f)) (sym is) (foreign is, same)

-- after a failed call, or out of memory, nothing is said of the bytes
not_begun : (held : List ℕ) (next : DiskState) (fault : DiskFault) → (fault ≡ disk.Failed) ⊎ (fault ≡ disk.Memory) → OpensNot held next (of_disk fault)
not_begun held next fault refused = ⊎_elim
    (λ (is : fault ≡ disk.Failed). subst (λ (f : DiskFault). OpensNot held next (of_disk f)) (sym is) tt)
    (λ (is : fault ≡ disk.Memory). subst (λ (f : DiskFault). OpensNot held next (of_disk f)) (sym is) tt)
    refused

pub not_begun_known : (content : Option (List ℕ)) (next : DiskState) (fault : DiskFault) (kept : OpenFault) → kept ≡ of_disk fault → (fault ≡ disk.Failed) ⊎ (fault ≡ disk.Memory) → IfSome content (λ held. OpensNot held next kept)
not_begun_known None next fault kept is refused = tt
not_begun_known (Some held) next fault kept is refused = subst (OpensNot held next) (sym is) (not_begun held next fault refused)

pub err_fault : {T : Type 0} (a b : DiskFault) → ◌≡◌ {A = Result T DiskFault} (Err a) (Err b) → a ≡ b
err_fault a b e = cc

pub same_fault : {T : Type 0} (a b : OpenFault) → ◌≡◌ {A = Result T OpenFault} (Err a) (Err b) → a ≡ b
same_fault a b e = cc

-- a failed call of the disk, and no other, is a fault of the disk
pub is_failed : (fault : DiskFault) → of_disk fault ≡ Disk → fault ≡ disk.Failed
is_failed disk.Failed e = refl
is_failed disk.NotDisk e = absurd cc
is_failed (disk.Damaged place) e = absurd cc
is_failed disk.Memory e = absurd cc

-- ---- what a crash leaves meanwhile

abbrev pub Opens : Start → DiskState → DiskState → Pairs → Type 0
Opens begin start now old = AtEachMoment start now (WhileOpening begin start old)

-- what a crash leaves on a disk that was only looked at before
looks_left : (begin : Start) (old : Pairs) (start mid : DiskState) (image : List ℕ) → OnlyLooks start mid → WhileOpening begin mid old image → WhileOpening begin start old image
looks_left begin old start mid image looks (inl early) = inl (looks.images image early)
looks_left begin old start mid image looks (inr (inl stands)) = inr (inl stands)
looks_left begin old start mid image looks (inr (inr still)) = inr (inr (subst (λ (o : Option (List ℕ)). IfSome o IsNewDisk) looks.content still.0, still.1))

pub looks_first : (begin : Start) (old : Pairs) (start mid next : DiskState) → OnlyLooks start mid → Opens begin mid next old → Opens begin start next old
looks_first begin old start mid next looks run =
    then_more start mid next _ (weaker start mid _ _ (λ image was. inl was) looks.moments)
    (weaker mid next _ _ (λ image was. looks_left begin old start mid image looks was) run)

-- a disk that held a valid journal and was only looked at still holds it
pub looked_legal : (begin : Start) (old : Pairs) (market : Market) (start next : DiskState) → HoldsLegal start begin old market → OnlyLooks start next → HoldsLegal next begin old market
looked_legal begin old market start next holds looks = record {
  bytes = holds.bytes;
  told = looks.content ∙ holds.told;
  journal = holds.journal;
  stands = holds.stands;
  each = λ image left. holds.each image (looks.images image left);
}

pub looks_alone : (begin : Start) (old : Pairs) (start next : DiskState) → OnlyLooks start next → Opens begin start next old
looks_alone begin old start next looks = weaker start next _ _ (λ image was. inl was) looks.moments

no_pairs : (old : Pairs) → map records_of old ≡ [] → old ≡ []
no_pairs [] e = refl
no_pairs (pair ∷ old) e = absurd (let size = ap length e in omega (arith, size))

module _ (start : DiskState) (v : Start) (old : Pairs) (market : Market) (holds : HoldsLegal start v old market) where
  same_bytes : (held : List ℕ) → start.content ≡ Some held → holds.bytes ≡ held
  same_bytes held told = let both : Some holds.bytes ≡ Some held = sym holds.told ∙ told in cc

  stands_there : (held : List ℕ) → start.content ≡ Some held → StandsForJournal v old held
  stands_there held told = subst (StandsForJournal v old) (same_bytes held told) holds.stands

  -- a new disk has no old entries
  pub new_again : (held : List ℕ) → start.content ≡ Some held → IsNewDisk held → old ≡ []
  new_again held told is_new = no_pairs old (⊎_elim (λ new. new.2) (λ has. few_none (head_of v) (map records_of old) (new_none (head_of v) (map records_of old) held is_new has)) (stands_there held told))

  -- what was opened are the old entries, which begin so
  pub opened_old : (held : List ℕ) → start.content ≡ Some held → (begin : Start) (legal : Pairs) (m : Market) → IsOpening held (Legal begin legal m) → (v ≡ begin) × (old ≡ legal) × (market ≡ m)
  opened_old held told begin legal m is =
      same_journal v begin held old legal market m holds.journal is.2 (has_them (head_of v) (map records_of old) held is.0 (stands_there held told)) is.3

  -- opening leaves the old entries, and cuts off what follows them
  begins_on : (held : List ℕ) (mid next : DiskState) (begin : Start) (legal : Pairs) (m : Market) (place : ℕ) → start.content ≡ Some held → OnlyLooks start mid → IsOpening held (Legal begin legal m) → EndsAt (head_of begin) (map records_of legal) place mid
      → ((w : Head) (pairs : List RecordPair) → EndsAt w pairs place mid → AtEachMoment mid next (StandsFor w pairs)) → Opens v start next old
  begins_on held mid next begin legal m place told looks opens ends moments =
      let same = opened_old held told begin legal m opens in
      then_more start mid next _ (looks_alone v old start mid looks)
      (weaker mid next _ _ (λ image stands. inr (inl (subst (λ (x : Start). StandsForJournal x old image) (sym same.0) (subst (λ (l : Pairs). StandsForJournal begin l image) (sym same.1) stands)))) (moments (head_of begin) (map records_of legal) ends))

  pub begins_known : (version : Version) (mid next : DiskState) (m : Market) (count place : ℕ) → OnlyLooks start mid → IfSome start.content (λ held. IsOpened version held m count place mid)
      → ((w : Head) (pairs : List RecordPair) → EndsAt w pairs place mid → AtEachMoment mid next (StandsFor w pairs)) → Opens v start next old
  begins_known version mid next m count place looks read moments =
      let opened = subst (λ (o : Option (List ℕ)). IfSome o (λ (held : List ℕ). IsOpened version held m count place mid)) holds.told read in
      begins_on holds.bytes mid next opened.0 opened.1 m place holds.told looks opened.3 opened.5 moments

  -- a new disk stays one, or begins so, while it is made one that begins so
  pub makes_new : (next : DiskState) (begin : Start) → IfSome start.content (λ held. IsFound None held start)
      → ((bytes : List ℕ) → start.content ≡ Some bytes → LeavesOnly start.images bytes → AtEachMoment start next (λ image. IsNewDisk image ⊎ StandsFor (head_of begin) [] image)) → Opens begin start next old
  makes_new next begin found moments =
      let is = subst (λ (o : Option (List ℕ)). IfSome o (λ (held : List ℕ). IsFound None held start)) holds.told found in
      let none = new_again holds.bytes holds.told is.0 in
      let was_new = subst (λ (o : Option (List ℕ)). IfSome o IsNewDisk) (sym holds.told) is.0 in
      weaker start next _ _ (λ image was. ⊎_elim (λ still. inr (inr (was_new, still))) (λ (stands : StandsFor (head_of begin) [] image). inr (inl (subst (λ (l : Pairs). StandsForJournal begin l image) (sym none) stands))) was) (moments holds.bytes holds.told is.3)

-- ---- if the disk's content is known

-- a disk that was found and only looked at is still so
pub found_looked : (version : Version) (content : Option (List ℕ)) (start next : DiskState) → OnlyLooks start next → IfSome content (λ held. IsFound (Some version) held start) → IfSome content (λ held. IsFound (Some version) held next)
found_looked version None start next looks is = tt
found_looked version (Some held) start next looks is = (is.0, is.1, looks_hold (head_of (Empty version)) [] 8 (drop 8 held) start next is.2 looks)

-- a disk that was read up to the commit byte can be begun
pub can_begin : (content now : Option (List ℕ)) (version : Version) (m : Market) (count place : ℕ) (mid : DiskState) → now ≡ content → IfSome content (λ held. IsOpened version held m count place mid) → IfSome now (λ _. (w : Head) × (pairs : List RecordPair) × EndsAt w pairs place mid)
can_begin content None version m count place mid told read = tt
can_begin None (Some bytes) version m count place mid told read = absurd cc
can_begin (Some held) (Some bytes) version m count place mid told read = (head_of read.0, map records_of read.1, read.5)

pub begun : (content : Option (List ℕ)) (version : Version) (m : Market) (count place later : ℕ) (mid next : DiskState) → IfSome content (λ held. IsOpened version held m count place mid) → ((w : Head) (pairs : List RecordPair) → EndsAt w pairs place mid → Keeps w pairs later next) → IfSome content (λ held. IsKeptOn version held m count later next)
begun None version m count place later mid next read keeps = tt
begun (Some held) version m count place later mid next read keeps = (read.0, read.1, read.2, read.3, read.4, keeps (head_of read.0) (map records_of read.1) read.5)

-- what was opened was read to its end, and its entries were counted
pub read_known : (version : Version) (content : Option (List ℕ)) (start mid next : DiskState) (first market : Market) (from place count : ℕ) → mid.content ≡ start.content → next.content ≡ mid.content → content ≡ start.content → IfSome content (λ held. IsFound (Some version) held start)
    → ((rest bytes : List ℕ) → start.content ≡ Some bytes → Holds (record { version = version; first = None }) [] 8 rest start → BeginsAt version bytes first from mid)
    → ((begin : Start) (rest : List ℕ) → CanStart begin → first ≡ market_of begin → Holds (head_of begin) [] from rest mid → (legal : Pairs) × (count ≡ length legal) × IsKeptJournal begin legal market × EndsAt (head_of begin) (map records_of legal) place next)
    → IfSome content (λ held. IsOpened version held market count place next)
read_known version None start mid next first market from place count same again told is begins found = tt
read_known version (Some held) start mid next first market from place count same again told is begins found =
    let at = begins (drop 8 held) held (sym told) is.2 in
    let all = found at.begin at.rest at.starts at.market_is at.holds in
    (at.begin, all.0, at.version_is, (is.0, is.1, all.2, ends_have (head_of at.begin) (map records_of all.0) place next held all.3 (again ∙ same ∙ sym told)), all.1, all.3)

-- no beginning was found
pub first_known : (version : Version) (content : Option (List ℕ)) (start next : DiskState) (fault : OpenFault) → content ≡ start.content → next.content ≡ start.content → IfSome content (λ held. IsFound (Some version) held start)
    → ((rest bytes : List ℕ) → start.content ≡ Some bytes → Holds (record { version = version; first = None }) [] 8 rest start → StopsFirst fault bytes) → IfSome content (λ held. OpensNot held next fault)
first_known version None start next fault told same is stops = tt
first_known version (Some held) start next fault told same is stops =
    let both : Some held ≡ Some (entries (head_of (Empty version)) [] ++ drop 8 held) = told ∙ is.2.content in
    let encoded : held ≡ entries (head_of (Empty version)) [] ++ drop 8 held = cc in
    first_opened version (drop 8 held) held next fault is.0 is.1 (same ∙ sym told) encoded (stops (drop 8 held) held (sym told) is.2)

-- what was opened was read up to where it is refused
pub stops_known : (version : Version) (content : Option (List ℕ)) (start mid next : DiskState) (first : Market) (from : ℕ) (fault : OpenFault) → content ≡ start.content → mid.content ≡ start.content → next.content ≡ mid.content → IfSome content (λ held. IsFound (Some version) held start)
    → ((rest bytes : List ℕ) → start.content ≡ Some bytes → Holds (record { version = version; first = None }) [] 8 rest start → BeginsAt version bytes first from mid)
    → ((begin : Start) (rest bytes : List ℕ) → CanStart begin → first ≡ market_of begin → Holds (head_of begin) [] from rest mid → mid.content ≡ Some bytes → StopsAs begin fault bytes) → IfSome content (λ held. OpensNot held next fault)
stops_known version None start mid next first from fault told same again is begins stops = tt
stops_known version (Some held) start mid next first from fault told same again is begins stops =
    let at = begins (drop 8 held) held (sym told) is.2 in
    stops_opened at.begin held next fault is.0 is.1 (again ∙ same ∙ sym told) (λ eight. at.unfit (at.holds.begins ∙ eight)) (stops at.begin at.rest held at.starts at.market_is at.holds (same ∙ sym told))

-- ---- a disk that keeps no valid journal

pub untouched_so : (content : Option (List ℕ)) (P : Type 0) → P → IfSome content (λ held. KeepNone held → P)
untouched_so None P p = tt
untouched_so (Some held) P p = λ none. p

pub none_read_up : (content : Option (List ℕ)) (version : Version) (m : Market) (count place : ℕ) (mid : DiskState) (P : Type 0) → IfSome content (λ held. IsOpened version held m count place mid) → IfSome content (λ held. KeepNone held → P)
none_read_up None version m count place mid P read = tt
none_read_up (Some held) version m count place mid P read = λ none. absurd (none.1 read.0 read.1 m read.3)

pub none_kept_on : (content : Option (List ℕ)) (version : Version) (m : Market) (count place : ℕ) (mid : DiskState) (P : Type 0) → IfSome content (λ held. IsKeptOn version held m count place mid) → IfSome content (λ held. KeepNone held → P)
none_kept_on None version m count place mid P begun = tt
none_kept_on (Some held) version m count place mid P begun = λ none. absurd (none.1 begun.0 begun.1 m begun.3)

-- a disk that keeps no valid journal isn't new
pub none_new : (content : Option (List ℕ)) (start : DiskState) (P : Type 0) → IfSome content (λ held. IsFound None held start) → IfSome content (λ held. KeepNone held → P)
none_new None start P found = tt
none_new (Some held) start P found = λ none. absurd (none.0 (found.0, found.1))
