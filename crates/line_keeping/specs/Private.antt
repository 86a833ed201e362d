-- For private functions alone: what finding a line, answering it, and opening an input do.
use Rattle.std.specs.Prelude.{◌≡◌, ◌<◌, ◌≤◌, ◌+◌, ◌*◌, ◌-◌, ◌^◌, ◌⊎◌, ℕ, List, [], ◌∷◌, ◌++◌, length, take, All, Option, Some, None, IfSome, IsSome, Bool, IsTrue, Result, Ok, Err, ⊤}
use Rattle.flow_io.specs.Streams.{Takes}
use Rattle.flow_io.specs.Windows.{WindowState}
use Rattle.wire_records.specs.Records.{Record}
use Rattle.wire_records.specs.Commands.{Command, Pair}
use Rattle.wire_records.specs.CommandRecords.{record_of}
use Rattle.wire_records.specs.Versions.{IsReadAs}
use Rattle.flow_orders.specs.Outcomes.{Outcome}
use Rattle.canonical_rule.specs.Canonical.{IsCanonicalOutcome}
use Rattle.journal_records.specs.Pairs.{IsPair, pair_encoding}
use Rattle.journal_records.specs.Formats.{records_of}
use Rattle.wire_records.specs.declared.version.Version.{Version}
use Rattle.market_rules.specs.Market.{Market}
use Rattle.market_snapshot.specs.Checkpoints.{checkpoint_magic, HasCheckpointMagic}
use Rattle.market_rules.specs.Journal.{Step}
use Rattle.batch_report.specs.Reports.{IsReport}
use Rattle.file_units.specs.Inputs.{known}
use Rattle.disk_edge.specs.Disks.{DiskState, AtEachMoment}
use Rattle.journal_disk.specs.Pairs.{RecordPair}
use Rattle.journal_disk.specs.Entries.{Head, WithOrWithout, Keeps}
use Rattle.journal_disk.specs.Lengths.{ReachesAtMost}
use Rattle.line_records.specs.Lines.{HasNoFeed, AreLines, ended_by_feeds}
use Rattle.file_units.specs.declared.units.Ending.{Ending}
use Rattle.file_units.specs.declared.units.Ending.TheVariants.{End, Torn, TooLong}
use Rattle.file_units.specs.declared.input.TakeFault.{TakeFault}
use Rattle.file_units.specs.declared.input.TakeFault.TheVariants.{Read, Broken}
use Rattle.flow_io.specs.declared.sink.WriteFailed.{WriteFailed}
use Rattle.journal_keeping.specs.declared.fault.ServeFault.{ServeFault}
use Rattle.journal_keeping.specs.declared.fault.ServeFault.TheVariants.{Disk, Write, Memory}
use Rattle.input_lines.specs.Finding.{IsOpen, HasEnded}
use Rattle.journal_keeping.specs.Taking.{InputFormat}
use Rattle.journal_keeping.specs.Lengths.{longest_stored_entry}
use Rattle.journal_keeping.specs.Outputs.{Output, Gains}
use Rattle.journal_keeping.specs.Private.{KeepsMore, HasAdded, HasStopped}
use Rattle.line_keeping.specs.Answers.{no_command_text, AreAnswered, IsLineAnswered, IsLineBegun, AreLinesAnswered, AreAnsweredInto, MayRunOut}
use Rattle.line_keeping.specs.Inputs.{bytes_before, line_starts, IsUnopened}

-- ---- what is before the lines

-- An input doesn't begin as it should if a checkpoint is before its lines and the file isn't new; any input of a new file does, but for one that
-- begins with an unsound checkpoint.
abbrev pub IsOtherInput : Option Version → ℕ → Option (List ℕ) → Type 0
IsOtherInput None limit content = ⊥
IsOtherInput (Some version) limit content = IfSome content (λ bytes. HasCheckpointMagic (take limit bytes))

-- how an input of lines is begun
abbrev pub lines_format : InputFormat
lines_format = record {
  starts = line_starts;
  encode = bytes_before;
  IsOther = IsOtherInput;
  ahead = 65538;
}

-- Bytes were taken from a source, which a window holds: whether they begin with the magic of a checkpoint, and if not, no more of the input within the limit makes
-- them so.
pub record ShowsStart (old new : WindowState) (before after : Option (List ℕ)) (found : Bool) : Type 0 where
  pub takes : Takes before after new.held
  pub limit : new.limit ≡ old.limit
  pub place : new.place ≡ 0
  pub is_open : IsOpen new after
  pub unended : IsTrue found → new.over ≡ None
  pub magic : IsTrue found → HasCheckpointMagic new.held
  pub other : ¬ IsTrue found → (¬ HasCheckpointMagic (take new.limit (known new.held after))) × (¬ IsUnopened None new.held ⊎ HasEnded new after ⊎ (new.limit ≡ length new.held))

-- the first bytes of an input were taken, and a window holds them
pub record HasLooked (old now : WindowState) (before rest : Option (List ℕ)) : Type 0 where
  pub takes : Takes before rest now.held
  pub limit : now.limit ≡ old.limit
  pub place : now.place ≡ 0
  pub is_open : IsOpen now rest
  pub unended : now.over ≡ None

-- Bytes were taken from a source, which are a part of the magic of a checkpoint.
pub record ShowsNone (limit : ℕ) (before after : Option (List ℕ)) : Type 0 where
  pub joined : List ℕ
  pub takes : Takes before after joined
  pub within : length joined ≤ limit
  pub part : (rest : List ℕ) × (checkpoint_magic ≡ joined ++ rest)
  pub few : length joined < 8

-- ---- commands

-- the room of the text that a line is no command: "line ", at most 20 digits, and the rest
abbrev pub refusal_room : ℕ
refusal_room = 40

-- what a desk needs to begin
pub record IsReadyToServe (market : Market) (entries place room : ℕ) : Type 0 where
  pub orders : market.next_order ≤ place + 2 ^ 63
  pub counted : entries ≤ place
  pub few : place ≤ 2 ^ 60
  pub text : refusal_room ≤ room

-- what is kept and written may go on: the numbers of orders and entries are below the place on the disk, which has room for so many entries more
pub record IsReadyFor (market : Market) (entries place left : ℕ) : Type 0 where
  pub orders : market.next_order ≤ place + 2 ^ 63
  pub counted : entries ≤ place
  pub room : place + longest_stored_entry * left ≤ 2 ^ 61

-- an entry that is one step of the market, and answers the record of a command
pub record IsServed (command : Command) (old : Market) (pair : Pair Record Outcome) (new : Market) : Type 0 where
  pub asked : pair.asked ≡ record_of command
  pub step : Step IsReadAs IsCanonicalOutcome old pair.asked pair.answer new
  pub fits : IsPair pair

-- a command was served, its entry kept, and its text written
pub record AnswersCommand (command : Command) (old new : Market) (count from to : ℕ) (disk later : DiskState) (out after : Output) : Type 0 where
  pub pair : Pair Record Outcome
  pub text : List ℕ
  pub served : IsServed command old pair new
  pub report : IsReport new (count + 1) (records_of pair) text
  pub keeps : KeepsMore (pair ∷ []) from to disk later
  pub told : IsSome later.content → IsSome disk.content
  pub place : to ≡ from + (5 + length (pair_encoding pair))
  pub gained : Gains ⊥ out after (text ∷ [])

-- why a command wasn't served, kept and told
module _ (command : Command) (old : Market) (count from to : ℕ) (disk later : DiskState) (out after : Output) (SameDisk : Type 0) where
  abbrev pub BreaksCommand : ServeFault → Type 0
  BreaksCommand Memory = SameDisk × (after ≡ out)
  BreaksCommand Disk =
      (after ≡ out) × (pair : Pair Record Outcome) × (text : List ℕ) × (new : Market) × IsServed command old pair new × IsReport new (count + 1) (records_of pair) text
      × ((head : Head) (pairs : List RecordPair) → Keeps head pairs from disk → AtEachMoment disk later (WithOrWithout head pairs (records_of pair ∷ [])))
  BreaksCommand Write =
      (pair : Pair Record Outcome) × (text : List ℕ) × (new : Market) × IsServed command old pair new × IsReport new (count + 1) (records_of pair) text
      × KeepsMore (pair ∷ []) from to disk later × (IsSome later.content → IsSome disk.content) × Gains (⊤) out after (text ∷ [])

-- if the content of a disk is known, it keeps some entries up to this place
abbrev pub KeepsSome : ℕ → DiskState → Type 0
KeepsSome place disk = IfSome disk.content (λ _. (head : Head) × (pairs : List RecordPair) × Keeps head pairs place disk)

-- several commands were answered, one after the other
pub record AnswersCommands (commands : List Command) (old new : Market) (count entries from to : ℕ) (disk later : DiskState) (out after : Output) : Type 0 where
  pub pairs : List (Pair Record Outcome)
  pub texts : List (List ℕ)
  pub answered : AreAnswered old count commands pairs texts new
  pub added : HasAdded disk later old new from to pairs
  pub stays : KeepsSome from disk → KeepsSome to later
  pub counted : entries ≡ count + length pairs
  pub size : length pairs ≡ length commands
  pub place : (from + length pairs ≤ to) × (to ≤ from + longest_stored_entry * length pairs)
  pub orders : new.next_order ≤ old.next_order + length pairs
  pub gained : Gains ⊥ out after texts

-- Answering broke off: these entries are acknowledged, and `more` is the one that was being kept, if one was. `Begun` says which entries and texts
-- are those of a part of what was to be answered.
pub record Breaks (Begun : List (Pair Record Outcome) → List (List ℕ) → Market → Type 0) (old : Market) (from : ℕ) (disk later : DiskState) (out after : Output) (fault : ServeFault) : Type 0 where
  pub pairs : List (Pair Record Outcome)
  pub texts : List (List ℕ)
  pub market : Market
  pub begun : Begun pairs texts market
  pub more : List (Pair Record Outcome)
  pub words : List (List ℕ)
  pub last : Market
  pub further : Begun (pairs ++ more) words last
  pub stops : HasStopped 1 (fault ≡ Disk) (fault ≡ Write) old market from disk later out after pairs more texts

-- the entries and texts of the first of these commands
abbrev pub AreBegun : Market → ℕ → List Command → List (Pair Record Outcome) → List (List ℕ) → Market → Type 0
AreBegun old count commands pairs texts new = (first : List Command) × (rest : List Command) × (commands ≡ first ++ rest) × AreAnswered old count first pairs texts new

-- answering commands broke off
abbrev pub BreaksCommands : List Command → Market → ℕ → ℕ → DiskState → DiskState → Output → Output → ServeFault → Type 0
BreaksCommands commands old count from disk later out after fault = Breaks (AreBegun old count commands) old from disk later out after fault

-- ---- lines

-- it was answered that the line of this number is no command
abbrev pub Refuses : ℕ → Result ⊤ WriteFailed → Output → Output → Type 0
Refuses number (Ok done) out after = Gains ⊥ out after (no_command_text number ∷ [])
Refuses number (Err failed) out after = Gains ⊤ out after (no_command_text number ∷ [])

-- a line was answered
pub record AnswersLine (number : ℕ) (line : List ℕ) (old new : Market) (count entries from to : ℕ) (disk later : DiskState) (out after : Output) : Type 0 where
  pub pairs : List (Pair Record Outcome)
  pub texts : List (List ℕ)
  pub answered : IsLineAnswered old count number line pairs texts new
  pub added : HasAdded disk later old new from to pairs
  pub counted : entries ≡ count + length pairs
  pub size : length pairs ≤ length line
  pub place : (from + length pairs ≤ to) × (to ≤ from + longest_stored_entry * length pairs)
  pub orders : new.next_order ≤ old.next_order + length pairs
  pub gained : Gains ⊥ out after texts

-- answering a line broke off
pub record BreaksLine (number : ℕ) (line : List ℕ) (old : Market) (count from : ℕ) (disk later : DiskState) (out after : Output) (fault : ServeFault) : Type 0 where
  pub breaks : Breaks (IsLineBegun old count number line) old from disk later out after fault
  pub lacks : fault ≡ Memory → MayRunOut line

-- ---- all lines

-- The lines before those that a window holds now were answered: these bytes were taken, and these lines and their entries were so far.
pub record HasGone (first now : WindowState) (rest left : Option (List ℕ)) (old market : Market) (count entries from place lines : ℕ) (start disk : DiskState) (out later : Output) : Type 0 where
  pub taken : List ℕ
  pub takes : Takes rest left taken
  pub read : List (List ℕ)
  pub pieces : All HasNoFeed read
  pub whole : first.held ++ taken ≡ ended_by_feeds read ++ now.held
  pub place_is : now.place ≡ first.place + length (ended_by_feeds read)
  pub limit : now.limit ≡ first.limit
  pub is_open : IsOpen now left
  pub number : lines ≡ length read
  pub pairs : List (Pair Record Outcome)
  pub texts : List (List ℕ)
  pub answered : AreLinesAnswered old count 1 read pairs texts market
  pub added : HasAdded start disk old market from place pairs
  pub counted : entries ≡ count + length pairs
  pub gained : Gains ⊥ out later texts
  pub orders : market.next_order ≤ place + 2 ^ 63
  pub few : entries ≤ place
  pub room : place + longest_stored_entry * (now.limit - now.place) ≤ 2 ^ 61

-- what the lines of the bytes after those that a window held are, by the result: `all` are these bytes, `seen` those that were taken of them
module _ (limit : ℕ) (all seen : List ℕ) (after : Option (List ℕ)) (read : List (List ℕ)) (line : List ℕ) where
  -- the lines that were read, one at which it stopped, and more; the source was read no further than 65,538 bytes past that line
  abbrev pub StopAt : Type 0
  StopAt =
      (more : List (List ℕ)) × AreLines (limit < length all) (take limit all) (read ++ line ∷ more)
      × (length seen ≤ length (ended_by_feeds (read ++ line ∷ [])) + 65538)

  abbrev pub AreRead : Result Ending (TakeFault ServeFault) → Type 0
  AreRead (Ok End) = AreLines (limit < length all) (take limit all) read × (length all ≤ limit) × IfSome after (λ left. left ≡ [])
  AreRead (Ok TooLong) = AreLines (limit < length all) (take limit all) read × (limit < length all)
  AreRead (Ok (Torn place)) = ⊥
  AreRead (Err Read) = AreLines ⊤ (take (length seen) (take limit all)) read
  AreRead (Err (Broken fault)) = StopAt

-- which of the lines were answered, by the result: those that were read, or also a part of the one at which it stopped
module _ (old : Market) (count : ℕ) (read : List (List ℕ)) (line : List ℕ) (pairs : List (Pair Record Outcome)) (texts : List (List ℕ)) (new : Market) where
  abbrev pub AreDone : Result Ending (TakeFault ServeFault) → Type 0
  AreDone (Ok ending) = AreLinesAnswered old count 1 read pairs texts new
  AreDone (Err Read) = AreLinesAnswered old count 1 read pairs texts new
  AreDone (Err (Broken fault)) = AreAnsweredInto old count read line pairs texts new

-- The lines from those that a window held on were answered: these entries are acknowledged, and `more` is the one that was being kept, if one was.
pub record AnswersOn (window : WindowState) (rest left : Option (List ℕ)) (result : Result Ending (TakeFault ServeFault)) (old : Market) (count from : ℕ) (start end : DiskState) (out later : Output) : Type 0 where
  pub taken : List ℕ
  pub takes : Takes rest left taken
  pub few : window.place + (length window.held + length taken) ≤ window.limit + 1
  pub read : List (List ℕ)
  pub line : List ℕ
  pub reads : AreRead (window.limit - window.place) (window.held ++ known taken left) (window.held ++ taken) left read line result
  pub pairs : List (Pair Record Outcome)
  pub texts : List (List ℕ)
  pub market : Market
  pub answered : AreDone old count read line pairs texts market result
  pub more : List (Pair Record Outcome)
  pub words : List (List ℕ)
  pub last : Market
  pub further : AreDone old count read line (pairs ++ more) words last result
  pub stops : HasStopped 1 (result ≡ Err (Broken Disk)) (result ≡ Err (Broken Write)) old market from start end out later pairs more texts
  pub lacks : result ≡ Err (Broken Memory) → MayRunOut line

-- how far a crash may leave a disk by now, from the bytes that the window gave up since
abbrev pub Reaches : WindowState → WindowState → ℕ → ℕ → DiskState → DiskState → Type 0
Reaches first now from place start disk =
    (place ≤ from + longest_stored_entry * (now.place - first.place)) × ReachesAtMost (from + (longest_stored_entry * (now.place - first.place) + 1)) start disk
