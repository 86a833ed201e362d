-- What comes of the lines of many senders, over a file that is read along with them first and then gets more.
use Rattle.std.specs.Prelude.{◌≡◌, ◌≢◌, ◌⊎◌, ◌≤◌, ◌<◌, ◌+◌, ◌-◌, ℕ, List, [], ◌∷◌, ◌++◌, length, take, All, Option, IfSome, Result, Ok, Err, ⊤}
use Rattle.flow_io.specs.Streams.{Takes}
use Rattle.wire_records.specs.Records.{Record}
use Rattle.wire_records.specs.Commands.{Command, Pair}
use Rattle.wire_records.specs.CommandRecords.{record_of}
use Rattle.wire_records.specs.Versions.{IsReadAs}
use Rattle.flow_accounts.specs.Balances.{account_count}
use Rattle.flow_orders.specs.Outcomes.{Outcome, IsAdmissibleOutcome}
use Rattle.canonical_rule.specs.Canonical.{IsCanonicalOutcome}
use Rattle.market_rules.specs.Market.{Market}
use Rattle.market_rules.specs.Journal.{Follows}
use Rattle.market_history.specs.Histories.{Start, market_of, CanStart}
use Rattle.batch_audit.specs.Legal.{IsIllegalPair}
use Rattle.line_records.specs.Lines.{HasNoFeed, ended_by_feeds}
use Rattle.word_driver.specs.Does.{IsTaken}
use Rattle.disk_edge.specs.Disks.{DiskState, AtEachMoment}
use Rattle.disk_edge.specs.Images.{Images, LeavesOnly}
use Rattle.journal_disk.specs.Pairs.{RecordPair}
use Rattle.journal_disk.specs.Entries.{IsNewDisk, most_unkept}
use Rattle.journal_disk.specs.Looking.{OnlyLooks}
use Rattle.journal_disk.specs.Recovering.{IsForeign}
use Rattle.journal_disk.specs.Stepping.{HasEntryAt, IsDamagedAt}
use Rattle.journal_keeping.specs.Keeping.{Runs, StandsForJournal, KeepsFirst}
use Rattle.journal_keeping.specs.Beginning.{WhileOpening}
use Rattle.journal_keeping.specs.Openings.{BeginsLegal, IsOpening}
use Rattle.journal_keeping.specs.Openings as opening
use Rattle.journal_keeping.specs.Outputs.{Output, Gains}
use Rattle.journal_keeping.specs.Dialogs.{KeepsJust}
use Rattle.journal_keeping.specs.declared.fault.InputFault.TheVariants as input
use Rattle.desk_messages.specs.Desks.{Desks, no_desks}
use Rattle.desk_session.specs.Lines.{AreLinesServed, AreServedInto, AreFirstServed}
use Rattle.desk_opening.specs.Beginnings.{bytes_before, NotBegun}
use Rattle.desk_opening.specs.Books.{Continues}
use Rattle.desk_opening.specs.Openings.{BeginsAlone, BeginsOtherwise}
use Rattle.desk_keeping.specs.declared.fault.HostFault.{HostFault}
use Rattle.desk_keeping.specs.declared.fault.HostFault.TheVariants.{Read, Write, Disk, Memory, NotDisk, Damaged, Rejected, NotFlow, BadCheckpoint, TooLong, Differs}

-- ---- lines and entries

-- the entries of a journal
abbrev pub Entries : Type 0
Entries = List (Pair Record Outcome)

-- texts, each of which is written by one call
abbrev pub Texts : Type 0
Texts = List (List ℕ)

-- what was counted before the first line
abbrev pub desks_of : Start → Desks
desks_of begin = no_desks (account_count (market_of begin).balances)

-- In a market that begins so these lines, from the first on, ask for these entries, and are answered with these texts. Each entry is valid, whoever made it.
abbrev pub AreHosted : Start → List (List ℕ) → Entries → Texts → Market → Desks → Type 0
AreHosted begin lines pairs texts new later = AreLinesServed IsAdmissibleOutcome (market_of begin) (desks_of begin) 0 lines pairs texts new later

-- the same of all lines but the last, of which only the first commands have entries, and `next` are the others
abbrev pub AreHostedInto : Start → List (List ℕ) → List ℕ → List Command → Entries → Texts → Market → Desks → Type 0
AreHostedInto begin lines line next pairs texts new later = AreServedInto IsAdmissibleOutcome (market_of begin) (desks_of begin) 0 lines line next pairs texts new later

-- the first of these lines ask for these entries, and are answered with these texts
abbrev pub AreFirstHosted : Start → List (List ℕ) → Entries → Texts → Type 0
AreFirstHosted begin lines pairs texts = AreFirstServed IsAdmissibleOutcome (market_of begin) (desks_of begin) 0 lines pairs texts

-- bytes are a beginning, lines with the line feed after each, and what follows the last of these
pub record HasLines (bytes : List ℕ) (begin : Start) (lines : List (List ℕ)) (last : List ℕ) : Type 0 where
  pub starts : CanStart begin
  pub pieces : All HasNoFeed lines
  pub whole : bytes ≡ bytes_before begin ++ (ended_by_feeds lines ++ last)

-- these are all lines of the bytes that a line feed ends
abbrev pub HasAllLines : List ℕ → Start → List (List ℕ) → Type 0
HasAllLines bytes begin lines = (last : List ℕ) × HasLines bytes begin lines last × HasNoFeed last

-- these are the first lines of the bytes
abbrev pub HasFirstLines : List ℕ → Start → List (List ℕ) → Type 0
HasFirstLines bytes begin lines = (last : List ℕ) × HasLines bytes begin lines last

-- ---- the file at the end

-- A file that held these bytes, and wasn't new, begins so, without a checkpoint only if it has none, and has these entries, which are valid, up to this place,
-- and perhaps others.
pub record HasUpTo (held : List ℕ) (begin : Start) (pairs : Entries) (market : Market) (place : ℕ) : Type 0 where
  pub is_old : ¬ IsNewDisk held
  pub is_file : ¬ IsForeign held
  pub alone : BeginsAlone begin held
  pub legal : BeginsLegal begin held pairs market place

-- The file has these entries up to this place; it was only looked at, and a crash leaves just what it held.
pub record IsReadTo (held : List ℕ) (begin : Start) (pairs : Entries) (market : Market) (place : ℕ) (start end : DiskState) : Type 0 where
  pub has : HasUpTo held begin pairs market place
  pub looks : OnlyLooks start end
  pub durable : LeavesOnly end.images held

-- The file, which held these bytes, got more entries after those that it had, by the canonical rule, and keeps just these all. It got one at least, unless
-- it was new.
pub record HasMore (held : List ℕ) (begin : Start) (pairs : Entries) (market : Market) (end : DiskState) : Type 0 where
  pub old : Entries
  pub before : Market
  pub continues : Continues held begin old before
  pub new : Entries
  pub more : (new ≢ []) ⊎ IsOpening held opening.New
  pub parts : pairs ≡ old ++ new
  pub steps : Follows IsReadAs IsCanonicalOutcome before new market
  pub keeps : KeepsJust end begin pairs

-- the entries that were asked for are in the file: as the first ones that it had, or as all that it keeps now
abbrev pub HasEntriesOf : List ℕ → Start → Entries → Market → (start end : DiskState) → Type 0
HasEntriesOf held begin pairs market start end = ((place : ℕ) × IsReadTo held begin pairs market place start end) ⊎ HasMore held begin pairs market end

-- ---- what it results in

-- All these lines were answered, each completely.
pub record HasAnswered (Are : Start → List (List ℕ) → Type 0) (held : List ℕ) (start end : DiskState) (out later : Output) : Type 0 where
  pub begin : Start
  pub lines : List (List ℕ)
  pub are : Are begin lines
  pub pairs : Entries
  pub texts : Texts
  pub market : Market
  pub desks : Desks
  pub hosted : AreHosted begin lines pairs texts market desks
  pub gained : Gains ⊥ out later texts
  pub file : HasEntriesOf held begin pairs market start end

-- It stopped at an entry of the file. The lines before were answered, and of the line that asks for this entry the commands before the one that does,
-- which is the first of `next`.
pub record StopsAtEntry (limit : ℕ) (held : List ℕ) (content : Option (List ℕ)) (start end : DiskState) (out later : Output) (Why : (place : ℕ) → Entries → Market → List Command → Type 0) : Type 0 where
  pub begin : Start
  pub lines : List (List ℕ)
  pub line : List ℕ
  pub are : IfSome content (λ bytes. HasFirstLines (take limit bytes) begin (lines ++ line ∷ []))
  pub next : List Command
  pub asks : next ≢ []
  pub pairs : Entries
  pub texts : Texts
  pub market : Market
  pub desks : Desks
  pub hosted : AreHostedInto begin lines line next pairs texts market desks
  pub gained : Gains ⊥ out later texts
  pub place : ℕ
  pub file : IsReadTo held begin pairs market place start end
  pub why : Why place pairs market next

-- at this place of the file is an entry that isn't valid in the market
abbrev pub IsEntryInvalid : List ℕ → (place : ℕ) → Market → Type 0
IsEntryInvalid bytes place market = (bad : RecordPair) × (rest : List ℕ) × HasEntryAt place bad rest bytes × IsIllegalPair market bad

-- at this place of the file is a valid entry, of another record than that of the command
abbrev pub IsEntryOther : List ℕ → (place : ℕ) → Market → List Command → Type 0
IsEntryOther bytes place market [] = ⊥
IsEntryOther bytes place market (command ∷ commands) =
    (other : RecordPair) × (rest : List ℕ) × HasEntryAt place other rest bytes × (¬ IsIllegalPair market other) × (other.0 ≢ record_of command)

-- the file was only looked at, and nothing was written
abbrev pub IsAsBefore : (start end : DiskState) → Output → Output → Type 0
IsAsBefore start end out later = OnlyLooks start end × (later ≡ out)

-- these are entries that the file had, from its first one on, or all that it had and others after them, by the canonical rule
abbrev pub AreOfFile : List ℕ → Start → Entries → Type 0
AreOfFile held begin pairs =
    ((market : Market) × (place : ℕ) × HasUpTo held begin pairs market place)
    ⊎ ((old : Entries) × (new : Entries) × (before : Market) × (after : Market) × (pairs ≡ old ++ new) × Continues held begin old before × Follows IsReadAs IsCanonicalOutcome before new after)

-- What was written are the answers of first lines of the input, by the first of such entries; only if a write failed, the last of these texts perhaps in part.
pub record TellsFirst (Cut : Type 0) (limit : ℕ) (held : List ℕ) (content : Option (List ℕ)) (out later : Output) : Type 0 where
  pub begin : Start
  pub lines : List (List ℕ)
  pub are : IfSome content (λ bytes. HasFirstLines (take limit bytes) begin lines)
  pub pairs : Entries
  pub others : Entries
  pub file : AreOfFile held begin (pairs ++ others)
  pub texts : Texts
  pub answered : AreFirstHosted begin lines pairs texts
  pub gained : Gains Cut out later texts

-- the beginning of an input, within the limit, is among what was taken of it
abbrev pub HasTakenBeginning : (limit : ℕ) → (before after : Option (List ℕ)) → Type 0
HasTakenBeginning limit before after = (begin : Start) × CanStart begin × (length (bytes_before begin) ≤ limit) × (more : List ℕ) × Takes before after (bytes_before begin ++ more)

-- What hosting the lines of many senders results in, if the file is known to have held these bytes. `left` is what is left of the input, and `content`
-- what it was.
abbrev pub ComesTo : (limit : ℕ) → List ℕ → (content left : Option (List ℕ)) → (start end : DiskState) → Output → Output → Result ⊤ HostFault → Type 0
-- Nothing is left of the input.
ComesTo limit held content left start end out later (Ok done) =
    HasAnswered (λ begin lines. IfSome content (λ bytes. HasAllLines bytes begin lines × (length bytes ≤ limit))) held start end out later × IfSome left (λ rest. rest ≡ [])
ComesTo limit held content left start end out later (Err TooLong) =
    HasAnswered (λ begin lines. IfSome content (λ bytes. HasAllLines (take limit bytes) begin lines × (limit < length bytes))) held start end out later
ComesTo limit held content left start end out later (Err Read) =
    HasAnswered (λ begin lines. IfSome content (λ bytes. (n : ℕ) × IsTaken bytes left n × (n ≤ limit) × HasAllLines (take n bytes) begin lines)) held start end out later
    ⊎ (NotBegun limit content left input.Read × IsAsBefore start end out later)
ComesTo limit held content left start end out later (Err NotFlow) = NotBegun limit content left input.NotFlow × IsAsBefore start end out later
ComesTo limit held content left start end out later (Err BadCheckpoint) = NotBegun limit content left input.BadCheckpoint × IsAsBefore start end out later
ComesTo limit held content left start end out later (Err NotDisk) = IsOpening held opening.Foreign × IsAsBefore start end out later
ComesTo limit held content left start end out later (Err (Damaged place)) =
    (IsOpening held (opening.Damaged place) × (place ≡ 8) × IsAsBefore start end out later)
    ⊎ StopsAtEntry limit held content start end out later (λ at pairs market next. (at ≡ place) × IsDamagedAt place held)
ComesTo limit held content left start end out later (Err (Rejected number)) = StopsAtEntry limit held content start end out later (λ at pairs market next. (number ≡ length pairs + 1) × IsEntryInvalid held at market)
ComesTo limit held content left start end out later (Err (Differs number)) =
    ((number ≡ 0) × IsAsBefore start end out later × (begin : Start) × IfSome content (λ bytes. HasFirstLines (take limit bytes) begin []) × BeginsOtherwise begin held end)
    ⊎ StopsAtEntry limit held content start end out later (λ at pairs market next. (number ≡ length pairs + 1) × IsEntryOther held at market next)
-- After a failed write the last text may be there in part.
ComesTo limit held content left start end out later (Err Write) = TellsFirst ⊤ limit held content out later
-- A call of the file fails before anything is read of the input, or once its beginning was taken.
ComesTo limit held content left start end out later (Err Disk) =
    ((later ≡ out) ⊎ TellsFirst ⊥ limit held content out later) × ((left ≡ content) ⊎ HasTakenBeginning limit content left)
ComesTo limit held content left start end out later (Err Memory) = (later ≡ out) ⊎ TellsFirst ⊥ limit held content out later

-- ---- a new file

-- a file that held these bytes and was new was only looked at, unless the beginning of the input was taken
abbrev pub IsMadeAfterBeginning : (limit : ℕ) → List ℕ → (start end : DiskState) → (before after : Option (List ℕ)) → Type 0
IsMadeAfterBeginning limit held start end before after = IsNewDisk held → OnlyLooks start end ⊎ HasTakenBeginning limit before after

-- ---- a file that is refused

-- it ended at the opening of the file
abbrev pub IsOfFile : Result ⊤ HostFault → Type 0
IsOfFile (Ok done) = ⊥
IsOfFile (Err Disk) = ⊤
IsOfFile (Err Memory) = ⊤
IsOfFile (Err NotDisk) = ⊤
IsOfFile (Err (Damaged place)) = ⊤
IsOfFile (Err fault) = ⊥

-- ---- a crash at any moment

-- these are all entries that the first of these lines ask for
abbrev pub AreOfWholeLines : Start → List (List ℕ) → Entries → Type 0
AreOfWholeLines begin lines pairs =
    (done : List (List ℕ)) × (rest : List (List ℕ)) × (lines ≡ done ++ rest) × (texts : Texts) × (market : Market) × (desks : Desks) × AreHosted begin done pairs texts market desks

-- what a crash leaves if the entries of a line are kept together: what it may leave while the file is opened, or all entries of the first of these lines
abbrev pub LeavesWholeLines : Start → List (List ℕ) → DiskState → Entries → Images
LeavesWholeLines begin lines start old image =
    WhileOpening begin start old image ⊎ ((all : Entries) × AreOfWholeLines begin lines all × StandsForJournal begin all image)

-- What a call does to a file with these old entries of a valid journal, and to its output. A new file begins as the input does. The entries that the first
-- lines of the input ask for are the old ones and then the new ones, or only the first of the old ones, and then nothing was added. A crash leaves the old
-- ones and a first part of the new ones (`runs`): those that are acknowledged, and of the others, which were kept together, all or none. At each moment it
-- leaves of a line all new entries, or none (`whole`). What was written are the answers of lines whose entries, the first `count`, are old or acknowledged.
-- A crash after the call leaves all of these, old ones too (`durable`). Unless a write failed, all acknowledged ones are among them (`lag`).
pub record HostsIn (limit : ℕ) (content : Option (List ℕ)) (Cut : Type 0) (was : Start) (start end : DiskState) (old : Entries) (market : Market) (out later : Output) : Type 0 where
  pub begin : Start
  pub from : Market
  pub continues : ((begin ≡ was) × (from ≡ market))
      ⊎ (IfSome start.content IsNewDisk × (from ≡ market_of begin) × IfSome content (λ bytes. HasFirstLines (take limit bytes) begin []))
  pub new : Entries
  pub acknowledged : ℕ
  pub runs : Runs most_unkept begin start end old from new acknowledged
  pub lines : List (List ℕ)
  pub are : (lines ≡ []) ⊎ IfSome content (λ bytes. HasFirstLines (take limit bytes) begin lines)
  pub pairs : Entries
  pub texts : Texts
  pub asked : AreFirstHosted begin lines pairs texts
  pub whole : AtEachMoment start end (LeavesWholeLines begin lines start old)
  pub parts : (pairs ≡ old ++ new) ⊎ ((new ≡ []) × (others : Entries) × (old ≡ pairs ++ others))
  pub count : ℕ
  pub within : count ≤ length old + acknowledged
  pub durable : (image : List ℕ) → end.images image → (count ≡ 0) ⊎ KeepsFirst begin [] (old ++ new) count (length (old ++ new)) image
  pub lag : Cut ⊎ (acknowledged ≤ count - length old)
  pub told : Texts
  pub answered : AreFirstHosted begin lines (take count pairs) told
  pub gained : Gains Cut out later told
