-- What keeping a journal results in, from what its parts did.
use Rattle.std.proofs.Common.{◌≡◌, ◌⊎◌, inl, inr, ℕ, ◌+◌, ◌-◌, ◌≤◌, ◌<◌, ◌^◌, List, [], ◌++◌, Option, Some, None, IfSome, Result, Ok, Err, length, map, take, refl, sym, ap, subst, ◌∙◌, arith, append_assoc, length-append}
use Rattle.std.proofs.Math.Seq.{take-append-add}
use Rattle.flow_io.specs.Streams.{Takes}
use Rattle.flow_io.specs.Windows.{WindowState}
use Rattle.wire_records.specs.Records.{Record}
use Rattle.wire_records.specs.Grammars.{BeginsWith}
use Rattle.wire_records.specs.Reading.{Reads, ReadsOn, StartsWith}
use Rattle.wire_records.specs.Reading as reading
use Rattle.wire_records.specs.Formats.{commands}
use Rattle.wire_records.specs.declared.version.Version.{Version}
use Rattle.journal_records.specs.Pairs.{pair_encoding}
use Rattle.journal_records.specs.Formats.{records_of}
use Rattle.market_rules.specs.Market.{Market}
use Rattle.market_history.specs.Histories.{Start}
use Rattle.file_units.specs.Units.{ending_of, GoesToEnd}
use Rattle.file_units.specs.Inputs.{known}
use Rattle.file_units.specs.declared.units.Ending.{Ending}
use Rattle.file_units.specs.declared.units.Ending.TheVariants as ending
use Rattle.file_units.proofs.Endings.{reads_alike}
use Rattle.disk_edge.specs.Disks.{DiskState}
use Rattle.journal_disk.specs.Entries.{Keeps}
use Rattle.file_units.specs.declared.input.TakeFault.{TakeFault}
use Rattle.file_units.specs.declared.input.TakeFault.TheVariants.{Read, Broken}
use Rattle.journal_keeping.specs.declared.fault.OpenFault.{OpenFault}
use Rattle.journal_keeping.specs.declared.fault.OpenFault.TheVariants as unopened
use Rattle.journal_keeping.specs.declared.fault.InputFault.TheVariants as input
use Rattle.journal_keeping.specs.declared.fault.BeginFault.{BeginFault}
use Rattle.journal_keeping.specs.declared.fault.BeginFault.TheVariants.{Open, Input, Make}
use Rattle.journal_keeping.specs.declared.fault.ServeFault.{ServeFault}
use Rattle.journal_keeping.specs.declared.fault.ServeFault.TheVariants.{Disk, Write, Memory}
use Rattle.journal_keeping.specs.Faults.{of_begin, kept_result}
use Rattle.journal_keeping.specs.Taking.{InputFormat, source_format}
use Rattle.journal_keeping.specs.Starts.{version_of, head_of, source_start, sources, source_starts}
use Rattle.journal_keeping.specs.Keeping.{IsKeptJournal, StandsForJournal, HoldsLegal, GoesOnIn}
use Rattle.journal_keeping.specs.Openings.{Opening, New, Legal}
use Rattle.journal_keeping.specs.Openings as opening
use Rattle.journal_keeping.specs.Ended.{IsRefused, HasKeptAll, ComesTo, IsRefusal}
use Rattle.journal_keeping.specs.Private.{Adds, ServesOn}
use Rattle.journal_keeping.specs.Outputs.{Output}
use Rattle.journal_keeping.specs.Dialogs.{ServesIn, KeepsJust, asked_of, record_dialog}
use Rattle.journal_keeping.specs.Beginning.{IsBegun, OpensNot, IsAfterSource, NotBegun}
use Rattle.journal_keeping.proofs.Opened.{legal_is_opened}
use Rattle.journal_keeping.proofs.Turns.{Pairs}
use Rattle.journal_keeping.proofs.Sources.{BeginsWithAll, asked_are_units}
use Rattle.journal_keeping.proofs.Served.{served_first, are_served, fewer_asked}
use Rattle.journal_keeping.proofs.Dialogs.{serves_added, has_served, keeps_just}
use Rattle.journal_keeping.proofs.Begun.{Opens}
use Rattle.journal_keeping.proofs.Starts.{of_source}
use Rattle.journal_keeping.proofs.Counts.{if_some}
use Rattle.journal_keeping.proofs.Faults.{begin_refusal, no_refusal_disk, no_refusal_memory}

-- ---- a source that was read on after its beginning

-- what a source that begins so is read as
reads_kept : (input : Start) (limit : ℕ) (bytes first held taken : List ℕ) (mid left : Option (List ℕ)) (units : List Record) (how : reading.Ending) → Takes (Some bytes) mid first → BeginsWith sources.magics first input held → length first ≤ limit → Takes mid left taken
    → ReadsOn commands (length (source_start input)) (limit - length (source_start input) < length (held ++ known taken left)) (take (limit - length (source_start input)) (held ++ known taken left)) units how → Reads sources limit bytes (reading.File input units how)
reads_kept input limit bytes first held taken None left units how opens magic few takes reads = absurd opens
reads_kept input limit bytes first held taken (Some m) None units how opens magic few takes reads = absurd takes
reads_kept input limit bytes first held taken (Some m) (Some l) units how opens magic few takes reads =
    let start = source_start input in
    let following = held ++ (taken ++ l) in
    let whole : bytes ≡ start ++ following = opens ∙ ap (λ (xs : List ℕ). xs ++ m) magic.1 ∙ append_assoc start held m ∙ ap (λ (xs : List ℕ). start ++ (held ++ xs)) takes in
    let within : length start ≤ limit = omega (arith, few, ap length magic.1, length-append start held) in
    let parts : limit ≡ length start + (limit - length start) = omega (arith, within) in
    let size : length bytes ≡ length start + length following = ap length whole ∙ length-append start following in (
      take (limit - length start) following,
      (magic.0, ap (take limit) whole ∙ ap (λ (n : ℕ). take n (start ++ following)) parts ∙ take-append-add start following (limit - length start)),
      of_source (length start) (limit < length bytes) (take (limit - length start) following) units how
          (reads_alike commands (limit - length start < length following) (limit < length bytes) (length start) (take (limit - length start) following) units how ((λ p. omega (arith, p, size, within)), (λ q. omega (arith, q, size, within))) reads),
    )

reads_where : (input : Start) (limit : ℕ) (content : Option (List ℕ)) (first held taken : List ℕ) (mid left : Option (List ℕ)) (units : List Record) (how : reading.Ending) → Takes content mid first → BeginsWith sources.magics first input held → length first ≤ limit → Takes mid left taken
    → ReadsOn commands (length (source_start input)) (limit - length (source_start input) < length (held ++ known taken left)) (take (limit - length (source_start input)) (held ++ known taken left)) units how → IfSome content (λ bytes. Reads sources limit bytes (reading.File input units how))
reads_where input limit None first held taken mid left units how opens magic few takes reads = tt
reads_where input limit (Some bytes) first held taken mid left units how opens magic few takes reads = reads_kept input limit bytes first held taken mid left units how opens magic few takes reads

-- ---- by the result

-- a version that is wanted is one
pub wanted_one : (version : Version) → ¬ (◌≡◌ {A = Option Version} (Some version) None)
wanted_one version e = absurd cc

-- nothing was served
pub comes_not_begun : (limit : ℕ) (held : List ℕ) (content left : Option (List ℕ)) (end : DiskState) (out : Output) (fault : BeginFault) → NotBegun source_format limit held content left end fault → ComesTo limit held content end out out (Err (of_begin fault))
comes_not_begun limit held content left end out (Open unopened.NotDisk) is = (refl, is)
comes_not_begun limit held content left end out (Open (unopened.Damaged place)) is = (refl, is)
comes_not_begun limit held content left end out (Open (unopened.Rejected number)) is = (refl, is)
comes_not_begun limit held content left end out (Open unopened.Disk) is = tt
comes_not_begun limit held content left end out (Open unopened.Memory) is = tt
comes_not_begun limit held content left end out (Input input.NotFlow) (inl kept) = (refl, inl kept)
comes_not_begun limit held content left end out (Input input.NotFlow) (inr (new, same, images, why)) = (refl, inr (new, why, same, images))
comes_not_begun limit held content left end out (Input input.BadCheckpoint) (inl (begin, old, market, opens, why, kept)) = absurd (wanted_one (version_of begin) why.0)
comes_not_begun limit held content left end out (Input input.BadCheckpoint) (inr (new, same, images, why)) = (refl, (new, why.1, same, images))
comes_not_begun limit held content left end out (Input input.Read) is = tt
comes_not_begun limit held content left end out (Input input.Memory) is = tt
comes_not_begun limit held content left end out Make is = tt

module _ (limit : ℕ) (held : List ℕ) (content : Option (List ℕ)) (begun : DiskState) (begin input : Start) (market : Market) (count place : ℕ) (is : IsBegun source_starts held begin input market count place begun) where
  module _ (mid left : Option (List ℕ)) (w : WindowState) (following : IsAfterSource limit input w content mid) (end : DiskState) (out later : Output) where
    far : w.limit - w.place ≡ limit - length (source_start input)
    far = omega (arith, following.limited, following.place)

    abbrev bytes : List ℕ → List ℕ
    bytes taken = w.held ++ known taken left

    -- all records were served
    all_kept : (result : Result Ending (TakeFault ServeFault)) (ends : Ending) (on : ServesOn w mid left result market place begun end out later) → (¬ (result ≡ Err (Broken Write))) → (¬ (result ≡ Err (Broken Disk)))
        → GoesToEnd commands Adds w.place (w.limit - w.place < length (bytes on.goes.taken)) (take (w.limit - w.place) (bytes on.goes.taken)) (ending_of ends) [] on.read tt tt
        → on.new ≡ on.read → HasKeptAll limit held content end out later (ending_of ends)
    all_kept result ends on uncut kept goes same =
        let reads : ReadsOn commands (length (source_start input)) (limit - length (source_start input) < length (bytes on.goes.taken)) (take (limit - length (source_start input)) (bytes on.goes.taken)) goes.units (ending_of ends) =
        subst (λ (n : ℕ). ReadsOn commands (length (source_start input)) (n < length (bytes on.goes.taken)) (take n (bytes on.goes.taken)) goes.units (ending_of ends)) far
        (subst (λ (n : ℕ). ReadsOn commands n (w.limit - w.place < length (bytes on.goes.taken)) (take (w.limit - w.place) (bytes on.goes.taken)) goes.units (ending_of ends)) following.place goes.reads) in
        let units : goes.units ≡ asked_of on.new = sym (asked_are_units [] goes.units on.read tt tt goes.leads) ∙ ap asked_of (sym same) in
        has_served source_starts held begin input market count place begun is following.magic.0 (result ≡ Err (Broken Disk)) (result ≡ Err (Broken Write)) on.market end out later on.new on.more (map pair_encoding on.new) on.stops
        ⊥ uncut (λ first m n new texts now. IfSome content (λ bytes. Reads sources limit bytes (reading.File first (asked_of new) (ending_of ends))) × (texts ≡ map pair_encoding new)) (KeepsJust end) (
          subst (λ (l : List Record). IfSome content (λ bytes. Reads sources limit bytes (reading.File input l (ending_of ends)))) units
              (reads_where input limit content following.first w.held on.goes.taken mid left goes.units (ending_of ends) following.takes following.magic following.few on.goes.takes reads),
          refl,
        )
        (keeps_just source_starts held begin input market count place begun is following.magic.0 (result ≡ Err (Broken Disk)) (result ≡ Err (Broken Write)) on.market end out later on.new on.more (map pair_encoding on.new) on.stops kept)

    whole : (ends : Ending) (fault : ServeFault) → ¬ (◌≡◌ {A = Result Ending (TakeFault ServeFault)} (Ok ends) (Err (Broken fault)))
    whole ends fault e = absurd cc

    -- records were served
    pub comes_served : (result : Result Ending (TakeFault ServeFault)) → ServesOn w mid left result market place begun end out later → ComesTo limit held content end out later (kept_result result)
    comes_served (Ok ending.End) on = all_kept (Ok ending.End) ending.End on (whole ending.End Write) (whole ending.End Disk) on.goes.goes.0 on.ended.1
    comes_served (Ok (ending.Torn n)) on = all_kept (Ok (ending.Torn n)) (ending.Torn n) on (whole (ending.Torn n) Write) (whole (ending.Torn n) Disk) on.goes.goes.0 on.ended.1
    comes_served (Ok ending.TooLong) on = all_kept (Ok ending.TooLong) ending.TooLong on (whole ending.TooLong Write) (whole ending.TooLong Disk) on.goes.goes.0 on.ended.1
    comes_served (Err Read) on = tt
    comes_served (Err (Broken Write)) on = tt
    comes_served (Err (Broken Disk)) on = tt
    comes_served (Err (Broken Memory)) on = tt

-- before the first record
pub adds_none : (limit : ℕ) (content : Option (List ℕ)) (input : Start) (from : Market) (count : ℕ) → record_dialog.Adds limit content input from count [] []
adds_none limit content input from count = (inl refl, refl)

-- the records that were served are the source's first, and what happened to the disk and the output
pub keeps_served : (limit : ℕ) (content mid left : Option (List ℕ)) (w : WindowState) (of input : Start) (following : IsAfterSource limit input w content mid) (result : Result Ending (TakeFault ServeFault)) (begin : Start) (start begun end : DiskState) (old : Pairs) (market session : Market) (count place : ℕ) (out later : Output)
    → GoesOnIn source_starts limit content start begin market of session input × IsKeptJournal of old session × (count ≡ length old) × Keeps (head_of of) (map records_of old) place begun → Opens of start begun old
    → ServesOn w mid left result session place begun end out later → ServesIn record_dialog limit content (result ≡ Err (Broken Write)) begin start end old market out later
keeps_served limit content mid left w of input following result begin start begun end old market session count place out later is opens on =
    let all = served_first w mid left result session place begun end out later on in
    serves_added record_dialog limit content (result ≡ Err (Broken Disk)) (result ≡ Err (Broken Write)) of input begin start begun end old market session on.market count place out later on.new on.more (map pair_encoding (on.new ++ on.more)) (map pair_encoding on.new)
    is opens on.stops
    (added (on.new ++ on.more) all)
    (added on.new (fewer_asked (take (w.limit - w.place) (w.held ++ known on.goes.taken left)) on.new on.more all))
  where
    added : (pairs : Pairs) → BeginsWithAll (take (w.limit - w.place) (w.held ++ known on.goes.taken left)) (asked_of pairs) → ((pairs ≡ []) ⊎ IfSome content (λ bytes. StartsWith sources limit bytes input (asked_of pairs))) × (map pair_encoding pairs ≡ map pair_encoding pairs)
    added pairs all = (
      inr (are_served input limit content mid left following.first w.held on.goes.taken (asked_of pairs) following.takes following.magic following.few on.goes.takes
          (subst (λ (n : ℕ). BeginsWithAll (take n (w.held ++ known on.goes.taken left)) (asked_of pairs)) (omega (arith, following.limited, following.place)) all)),
      refl,
    )

-- ---- no refusal

-- a disk that keeps a valid journal is not refused
module _ (begin : Start) (held : List ℕ) (old : Pairs) (market : Market) (legal : IsKeptJournal begin old market) (keeps : StandsForJournal begin old held) (small : length held ≤ 2 ^ 60) (end : DiskState) where
  opened : (opens : Opening) → IsRefused held opens end → (opens ≡ New) ⊎ (opens ≡ Legal begin old market)
  opened opens refused = legal_is_opened begin old market held opens legal keeps small refused.0

  not_foreign_one : (opening.Foreign ≡ New) ⊎ (opening.Foreign ≡ Legal begin old market) → ⊥
  not_foreign_one (inl e) = absurd cc
  not_foreign_one (inr e) = absurd cc

  not_damaged_one : (n : ℕ) → (opening.Damaged n ≡ New) ⊎ (opening.Damaged n ≡ Legal begin old market) → ⊥
  not_damaged_one n (inl e) = absurd cc
  not_damaged_one n (inr e) = absurd cc

  not_rejected_one : (n : ℕ) → (opening.Rejected n ≡ New) ⊎ (opening.Rejected n ≡ Legal begin old market) → ⊥
  not_rejected_one n (inl e) = absurd cc
  not_rejected_one n (inr e) = absurd cc

  opened_legal : (fault : OpenFault) → OpensNot held end fault → IsRefusal (Err (of_begin (Open fault))) → ⊥
  opened_legal unopened.NotDisk is refusal = not_foreign_one (opened opening.Foreign is)
  opened_legal (unopened.Damaged n) is refusal = not_damaged_one n (opened (opening.Damaged n) is)
  opened_legal (unopened.Rejected n) is refusal = not_rejected_one n (opened (opening.Rejected n) is)
  opened_legal unopened.Disk is refusal = no_refusal_disk refusal
  opened_legal unopened.Memory is refusal = no_refusal_memory refusal

not_refused_legal : (begin : Start) (start end : DiskState) (old : Pairs) (market : Market) (fault : OpenFault) → HoldsLegal start begin old market → IfSome start.content (λ held. length held ≤ 2 ^ 60)
    → IfSome start.content (λ held. OpensNot held end fault) → ¬ IsRefusal (Err (of_begin (Open fault)))
not_refused_legal begin start end old market fault holds small is =
    opened_legal begin holds.bytes old market holds.journal holds.stands
    (subst (λ (o : Option (List ℕ)). IfSome o (λ (held : List ℕ). length held ≤ 2 ^ 60)) holds.told small) end fault
    (subst (λ (o : Option (List ℕ)). IfSome o (λ (held : List ℕ). OpensNot held end fault)) holds.told is)

pub refused_not_legal : (format : InputFormat) (begin : Start) (limit : ℕ) (content left : Option (List ℕ)) (start end : DiskState) (old : Pairs) (market : Market) (fault : BeginFault) → HoldsLegal start begin old market → IfSome start.content (λ held. length held ≤ 2 ^ 60)
    → IfSome start.content (λ held. NotBegun format limit held content left end fault) → ¬ IsRefusal (Err (of_begin fault))
refused_not_legal format begin limit content left start end old market fault holds small is refusal =
    let of = begin_refusal fault refusal in
    not_refused_legal begin start end old market of.0 holds small
    (if_some start.content _ _ (λ (held : List ℕ) not. subst (NotBegun format limit held content left end) of.1 not) is)
    (subst (λ (f : BeginFault). IsRefusal (Err (of_begin f))) of.1 refusal)
