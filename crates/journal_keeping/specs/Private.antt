-- For private functions alone: what adding entries does, and what serving a record, keeping its entry and writing it does.
use Rattle.std.specs.Prelude.{◌≡◌, ◌≢◌, ◌<◌, ◌≤◌, ◌+◌, ◌*◌, ◌^◌, ◌⊎◌, ℕ, List, [], ◌∷◌, ◌++◌, length, drop, map, Option, IsSome, Result, Ok, Err, ⊤}
use Rattle.std.specs.List.{flat_map}
use Rattle.flow_io.specs.Streams.{Grows}
use Rattle.flow_io.specs.Windows.{WindowState}
use Rattle.wire_records.specs.Records.{Record}
use Rattle.wire_records.specs.Commands.{Pair}
use Rattle.wire_records.specs.Versions.{IsReadAs}
use Rattle.wire_records.specs.Grammars.{BeginsWith, BeginsWithNone}
use Rattle.wire_records.specs.Formats.{commands}
use Rattle.flow_orders.specs.Outcomes.{Outcome}
use Rattle.canonical_rule.specs.Canonical.{IsCanonicalOutcome}
use Rattle.journal_records.specs.Pairs.{IsPair, pair_encoding}
use Rattle.journal_records.specs.Formats.{records_of}
use Rattle.market_rules.specs.Market.{Market}
use Rattle.market_history.specs.Histories.{Start}
use Rattle.market_rules.specs.Journal.{Step}
use Rattle.market_rules.specs.Allocating.{RecordMayAllocate}
use Rattle.file_units.specs.declared.units.Prefix.{Prefix}
use Rattle.file_units.specs.declared.units.Prefix.TheVariants.{Taken, NoBytes, Overlong, Short}
use Rattle.file_units.specs.declared.units.Ending.{Ending}
use Rattle.file_units.specs.declared.input.TakeFault.{TakeFault}
use Rattle.file_units.specs.declared.input.TakeFault.TheVariants.{Read, Broken}
use Rattle.file_units.specs.Inputs.{GoesFrom}
use Rattle.exchange_session.specs.Serving.{HasNumbers}
use Rattle.disk_edge.specs.Disks.{DiskState, AtEachMoment}
use Rattle.journal_disk.specs.Pairs.{RecordPair}
use Rattle.journal_disk.specs.Entries.{Head, WithOrWithout, Keeps}
use Rattle.journal_keeping.specs.Starts.{head_of}
use Rattle.journal_keeping.specs.Keeping.{IsKeptJournal, GoesOn, Runs}
use Rattle.journal_keeping.specs.Lengths.{longest_stored_entry}
use Rattle.journal_keeping.specs.Outputs.{Output, Gains}
use Rattle.journal_keeping.specs.Dialogs.{KeepsJust, asked_of}
use Rattle.journal_keeping.specs.Serving.{HasKept}
use Rattle.journal_keeping.specs.declared.fault.ServeFault.{ServeFault}
use Rattle.journal_keeping.specs.declared.fault.ServeFault.TheVariants.{Disk, Write, Memory}

-- ---- entries that are added, whatever the input is

-- a disk that kept entries keeps these after them, and at each moment since a crash left all of these or none of them
pub record KeepsMore (more : List (Pair Record Outcome)) (from to : ℕ) (old new : DiskState) : Type 0 where
  pub keeps : (head : Head) (pairs : List RecordPair) → Keeps head pairs from old → Keeps head (pairs ++ map records_of more) to new
  pub moments : (head : Head) (pairs : List RecordPair) → Keeps head pairs from old → AtEachMoment old new (WithOrWithout head pairs (map records_of more))

-- `P` holds of each valid journal that led to this market, and whose entries the disk keeps up to the place.
abbrev pub IfKept : Market → ℕ → DiskState → (Start → List (Pair Record Outcome) → Type 0) → Type 0
IfKept market place disk P = (begin : Start) (old : List (Pair Record Outcome)) → IsKeptJournal begin old market → Keeps (head_of begin) (map records_of old) place disk → P begin old

-- A disk that keeps entries of a valid journal, which led to a market, keeps these after them: what a crash left meanwhile, and that its content wasn't lost.
pub record HasAdded (start now : DiskState) (before market : Market) (from place : ℕ) (new : List (Pair Record Outcome)) : Type 0 where
  pub kept : IfKept before from start (λ begin old. HasKept begin start now old before place new market)
  pub told : IsSome now.content → IsSome start.content

-- Adding entries stopped: these are acknowledged and were answered with these texts, and `more` are those of the last group that aren't, if there are
-- any: it wasn't kept, or their texts weren't written. Unless it failed so, there are none, and the disk keeps just the others.
pub record HasStopped (together : ℕ) (Failed Cut : Type 0) (before now : Market) (from : ℕ) (start end : DiskState) (out later : Output) (new more : List (Pair Record Outcome)) (texts : List (List ℕ)) : Type 0 where
  pub goes_on : IfKept before from start (λ begin old. GoesOn begin old before new now)
  pub runs : IfKept before from start (λ begin old. Runs together begin start end old before (new ++ more) (length new))
  pub gained : Gains Cut out later texts
  pub whole : ¬ Failed → (more ≡ []) × IfKept before from start (λ begin old. KeepsJust end begin (old ++ new))

-- ---- records that are served

-- Up to `left` bytes of records can still be served and kept: there are numbers for their orders, and places on the disk for their entries.
abbrev pub IsReady : Market → ℕ → ℕ → Type 0
IsReady market place left = HasNumbers market left × (place + longest_stored_entry * left ≤ 2 ^ 61)

-- the first record of the bytes was answered so, by one step of the market, and the entry is within the limits of a journal
pub record IsServed (bytes : List ℕ) (old : Market) (pair : Pair Record Outcome) (new : Market) : Type 0 where
  pub lawful : commands.units.IsLawful pair.asked
  pub rest : List ℕ
  pub prefix : bytes ≡ commands.units.encode pair.asked ++ rest
  pub step : Step IsReadAs IsCanonicalOutcome old pair.asked pair.answer new
  pub fits : IsPair pair

-- the first record of the bytes was served, its entry kept, and then written
pub record TakesNext (n : ℕ) (bytes : List ℕ) (old new : Market) (from to : ℕ) (disk later : DiskState) (out after : Output) : Type 0 where
  pub pair : Pair Record Outcome
  pub served : IsServed bytes old pair new
  pub size : n ≡ length (commands.units.encode pair.asked)
  pub some : 0 < n
  pub following : served.rest ≡ drop n bytes
  pub keeps : KeepsMore (pair ∷ []) from to disk later
  pub told : IsSome later.content → IsSome disk.content
  pub gained : Gains ⊥ out after (pair_encoding pair ∷ [])

-- what the bytes begin with, and what was done with it
abbrev pub IsTakenNext : Prefix → List ℕ → Market → Market → ℕ → ℕ → DiskState → DiskState → Output → Output → Type 0
IsTakenNext (Taken n) bytes old new from to disk later out after = TakesNext n bytes old new from to disk later out after
IsTakenNext NoBytes bytes old new from to disk later out after = BeginsWithNone commands.units bytes × (bytes ≡ []) × (¬ commands.IsOverlong bytes)
IsTakenNext Overlong bytes old new from to disk later out after = BeginsWithNone commands.units bytes × commands.IsOverlong bytes
IsTakenNext Short bytes old new from to disk later out after = BeginsWithNone commands.units bytes × (bytes ≢ []) × (¬ commands.IsOverlong bytes)

-- `Same` holds if nothing was taken: then nothing changed
abbrev pub IsStill : Prefix → Type 0 → Type 0
IsStill (Taken n) Same = ⊤
IsStill NoBytes Same = Same
IsStill Overlong Same = Same
IsStill Short Same = Same

-- the bytes begin with a complete record, which may allocate
abbrev pub HasAllocating : Market → List ℕ → Type 0
HasAllocating market bytes = (asked : Record) × (rest : List ℕ) × BeginsWith commands.units bytes asked rest × RecordMayAllocate market asked

-- why the first record wasn't served, kept and written, and whether the disk and the output are unchanged
module _ (bytes : List ℕ) (old : Market) (from to : ℕ) (disk later : DiskState) (out after : Output) (SameDisk : Type 0) where
  abbrev pub BreaksNext : ServeFault → Type 0
  BreaksNext Memory = SameDisk × (after ≡ out) × HasAllocating old bytes
  BreaksNext Disk =
      (after ≡ out) × (pair : Pair Record Outcome) × (new : Market) × IsServed bytes old pair new
      × ((head : Head) (pairs : List RecordPair) → Keeps head pairs from disk → AtEachMoment disk later (WithOrWithout head pairs (records_of pair ∷ [])))
  BreaksNext Write =
      (pair : Pair Record Outcome) × (new : Market) × IsServed bytes old pair new × KeepsMore (pair ∷ []) from to disk later × (IsSome later.content → IsSome disk.content)
      × Gains ⊤ out after (pair_encoding pair ∷ [])

-- the entries so far, and one more for a record that was taken
abbrev pub Adds : List (Pair Record Outcome) → Record → List (Pair Record Outcome) → ⊤ → ⊤ → Type 0
Adds old asked new before after = (pair : Pair Record Outcome) × (pair.asked ≡ asked) × (new ≡ old ++ pair ∷ [])

-- It broke off after the entries that were written, at the record of the next entry, if there is one. If memory ran out, that record may
-- allocate.
abbrev pub Names : Market → (new more : List (Pair Record Outcome)) → List (Pair Record Outcome) → Record → ServeFault → ⊤ → ⊤ → Type 0
Names market new more done asked why before after =
    (done ≡ new) × ((more ≡ []) ⊎ (asked_of more ≡ asked ∷ [])) × (why ≡ Memory → RecordMayAllocate market asked)

-- `P` holds unless an entry was being kept or written when it ended
abbrev pub IfEnded : Result Ending (TakeFault ServeFault) → Type 0 → Type 0
IfEnded (Ok ending) P = P
IfEnded (Err Read) P = P
IfEnded (Err (Broken Memory)) P = P
IfEnded (Err (Broken Disk)) P = ⊤
IfEnded (Err (Broken Write)) P = ⊤

-- The records from those that a window held on were served: the entries of these were kept and written, and it broke off at the next one, whose entry
-- is the last one, if it was served.
pub record ServesOn (window : WindowState) (rest left : Option (List ℕ)) (result : Result Ending (TakeFault ServeFault)) (before : Market) (from : ℕ) (start end : DiskState) (out later : Output) : Type 0 where
  pub read : List (Pair Record Outcome)
  pub last : List (Pair Record Outcome)
  pub new : List (Pair Record Outcome)
  pub more : List (Pair Record Outcome)
  pub all : new ++ more ≡ read ++ last
  pub market : Market
  pub goes : GoesFrom commands Adds (Names market read last) window rest left result [] read tt tt
  pub stops : HasStopped 1 (result ≡ Err (Broken Disk)) (result ≡ Err (Broken Write)) before market from start end out later new more (map pair_encoding new)
  pub written : (text : List ℕ) × Grows out.held later.held (flat_map pair_encoding read ++ text)
  pub ended : IfEnded result ((last ≡ []) × (new ≡ read) × (more ≡ []))
