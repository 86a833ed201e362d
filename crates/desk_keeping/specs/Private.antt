-- For private functions alone: a host between lines, what hearing a line and keeping a group do, and where it stops.
use Rattle.std.specs.Prelude.{◌≡◌, ◌≢◌, ◌⊎◌, ◌<◌, ◌≤◌, ◌+◌, ◌-◌, ◌*◌, ◌^◌, ℕ, List, [], ◌∷◌, ◌++◌, length, take, drop, map, All, Option, IfSome, IsSome, Bool, true, false, IsTrue, ⊤}
use Rattle.std.specs.List.{flat_map}
use Rattle.wire_records.specs.Commands.{Command, Pair}
use Rattle.wire_records.specs.Versions.{IsReadAs}
use Rattle.canonical_rule.specs.Canonical.{IsCanonicalOutcome}
use Rattle.flow_orders.specs.Outcomes.{IsAdmissibleOutcome}
use Rattle.journal_records.specs.Pairs.{IsPair, longest_plain_pair}
use Rattle.journal_records.specs.Formats.{records_of}
use Rattle.market_rules.specs.Market.{Market}
use Rattle.market_rules.specs.Journal.{Follows}
use Rattle.market_history.specs.Histories.{Start}
use Rattle.answer_text.specs.declared.header.Recipient.{Recipient}
use Rattle.wire_records.specs.Records.{Record}
use Rattle.flow_orders.specs.Outcomes.{Outcome}
use Rattle.disk_edge.specs.Disks.{DiskState, AtEachMoment}
use Rattle.journal_disk.specs.Entries.{entry, Keeps}
use Rattle.journal_disk.specs.Ahead.{AheadState, IsPiece}
use Rattle.journal_disk.specs.Looking.{OnlyLooks}
use Rattle.journal_disk.specs.Stepping.{HasEntryAt, StatesAt, IsDamagedAt}
use Rattle.journal_keeping.specs.Starts.{head_of}
use Rattle.journal_keeping.specs.Keeping.{HoldsLegal, GoesOn, DuringCall}
use Rattle.journal_keeping.specs.Openings.{KeepNone, IsOpening}
use Rattle.journal_keeping.specs.Openings as opening
use Rattle.journal_keeping.specs.Beginning.{WhileOpening}
use Rattle.journal_keeping.specs.Outputs.{Output, Gains}
use Rattle.desk_session.specs.States.{State, CountsAccounts, Answers, Serves, IsUntouched}
use Rattle.desk_session.specs.Lines.{AreServed, IsLineServed, IsLineBegun}
use Rattle.desk_opening.specs.Books.{IsReadAlong, GetsMore, Continues, AddsTo, LeavesWithOrWithout}
use Rattle.desk_opening.specs.declared.book.Book.{Book}
use Rattle.desk_opening.specs.declared.book.Book.TheVariants.{Kept, Open}
use Rattle.desk_keeping.specs.Hosting.{Entries, Texts, AreHosted, AreOfWholeLines, LeavesWholeLines, IsEntryInvalid, IsEntryOther}
use Rattle.desk_keeping.specs.declared.fault.HostFault.{HostFault}
use Rattle.desk_keeping.specs.declared.fault.HostFault.TheVariants.{Write, Disk, Memory, Damaged, Rejected, Differs}
use Rattle.flow_io.specs.Streams.{Takes}
use Rattle.flow_io.specs.Windows.{WindowState}
use Rattle.market_history.specs.Histories.{CanStart}
use Rattle.line_records.specs.Lines.{HasNoFeed, ended_by_feeds}
use Rattle.input_lines.specs.Finding.{IsOpenFor}
use Rattle.journal_keeping.specs.Lengths.{longest_stored_entry}
use Rattle.desk_messages.specs.Desks.{Desks}
use Rattle.desk_lines.specs.Hearing.{most_envelope}
use Rattle.desk_session.specs.Bounds.{IsWithin}
use Rattle.desk_opening.specs.Openings.{BeginsAlone, place_of}
use Rattle.desk_opening.specs.Beginnings.{bytes_before}
use Rattle.wire_records.specs.CommandRecords.{record_of}
use Rattle.journal_records.specs.Replies.{EncodesAnswer}
use Rattle.batch_audit.specs.Legal.{IsIllegalPair}
use Rattle.journal_disk.specs.Pairs.{RecordPair, IsRecordPair, pair_bytes}

-- ---- states

-- what a host has: the session, the file, the bytes of the entries of complete lines that aren't kept yet and of those of the line that is being answered,
-- and how many of the session's texts are of complete lines, and were written
pub record HostState : Type 0 where
  pub session : State
  pub book : Book
  pub group : List ℕ
  pub fresh : List ℕ
  pub told : ℕ
  pub written : ℕ

-- entries as they are stored, one after the other
abbrev pub stored : Entries → List ℕ
stored pairs = flat_map entry (map records_of pairs)

-- the texts of complete lines that are to be written
abbrev pub unwritten : HostState → Texts
unwritten h = take (h.told - h.written) (drop h.written h.session.talk.texts)

-- some texts were written, and those of complete lines are to be, if they aren't
abbrev pub IsOrdered : HostState → Type 0
IsOrdered h = (h.written ≤ h.told) × (h.told ≤ length h.session.talk.texts)

-- ---- the file, from one call to the next

-- A file that was read along is read on: these entries were taken for commands, from one market to another.
abbrev pub ReadsOn : (place later : ℕ) (ahead next : AheadState) (disk now : DiskState) (old : Market) → Entries → (new : Market) → Type 0
ReadsOn place later ahead next disk now old taken new =
    (begin : Start) (pairs : Entries) → IsReadAlong begin place ahead disk disk pairs old → IsReadAlong begin later next disk now (pairs ++ taken) new

-- A file that was read along has no more entries than these, and gets more.
abbrev pub ReadsUp : (place later : ℕ) (ahead : AheadState) (disk now : DiskState) (old : Market) → Entries → (new : Market) → Type 0
ReadsUp place later ahead disk now old taken new =
    (begin : Start) (pairs : Entries) → IsReadAlong begin place ahead disk disk pairs old → GetsMore begin later disk now (pairs ++ taken) new

-- a file that is read along can be read on, in a market after these entries
abbrev pub CanRead : Book → DiskState → Market → Type 0
CanRead (Kept place ahead) disk market = (begin : Start) × (pairs : Entries) × IsReadAlong begin place ahead disk disk pairs market
CanRead (Open place) disk market = ⊤

-- Commands got these entries, one after the other: the first ones were taken from the file, and the others were made, and aren't kept yet. Unless it was read
-- to its end meanwhile, a file that gets more is as it was.
abbrev pub FileGoes : (old new : Book) (disk now : DiskState) (SameDisk : Type 0) (before : Market) (taken made : Entries) (after : Market) → Type 0
FileGoes (Kept place ahead) (Kept later next) disk now SameDisk before taken made after = (made ≡ []) × ReadsOn place later ahead next disk now before taken after
FileGoes (Kept place ahead) (Open later) disk now SameDisk before taken made after =
    (at : Market) × ReadsUp place later ahead disk now before taken at × Follows IsReadAs IsCanonicalOutcome at made after × All IsPair made
FileGoes (Open place) (Open later) disk now SameDisk before taken made after =
    (taken ≡ []) × (later ≡ place) × SameDisk × Follows IsReadAs IsCanonicalOutcome before made after × All IsPair made
FileGoes (Open place) (Kept later next) disk now SameDisk before taken made after = ⊥

-- if a book was read to its end meanwhile, one entry at least was made
abbrev pub MakesAtEnd : (old new : Book) → (made : Entries) → Type 0
MakesAtEnd (Kept place ahead) (Open later) made = 0 < length made
MakesAtEnd (Kept place ahead) (Kept later next) made = ⊤
MakesAtEnd (Open place) new made = ⊤

-- a file that keeps no valid journal, and isn't new, was only looked at
abbrev pub IsLeftAlone : (start now : DiskState) → Type 0
IsLeftAlone start now = IfSome start.content (λ held. KeepNone held → OnlyLooks start now)

-- What a crash leaves of a file that was read along and perhaps being cut: what it might have left before, or the entries of the file. If that keeps no valid
-- journal, it was only looked at. One that gets more is as it was.
abbrev pub LeavesFile : Book → (disk now : DiskState) (SameDisk : Type 0) → Market → Type 0
LeavesFile (Kept place ahead) disk now SameDisk market =
    (begin : Start) (pairs : Entries) → IsReadAlong begin place ahead disk disk pairs market
    → ((was : Start) (legal : Entries) (m : Market) → HoldsLegal disk was legal m → AtEachMoment disk now (WhileOpening begin disk legal)) × IsLeftAlone disk now
LeavesFile (Open place) disk now SameDisk market = SameDisk

-- ---- commands and lines

-- what a line leaves as it was: the entries that wait, and which texts are of complete lines and were written
pub record StaysAside (old new : HostState) : Type 0 where
  pub group : new.group ≡ old.group
  pub told : new.told ≡ old.told
  pub written : new.written ≡ old.written

-- A command got an entry, which was taken from the file, or made.
pub record AnswersOne (sender : Recipient) (line : ℕ) (command : Command) (old new : HostState) (disk now : DiskState) (SameDisk : Type 0) : Type 0 where
  pub pair : Pair Record Outcome
  pub taken : Entries
  pub made : Entries
  pub one : taken ++ made ≡ pair ∷ []
  pub answers : Answers IsAdmissibleOutcome old.session sender line command pair new.session
  pub goes : FileGoes old.book new.book disk now SameDisk old.session.market taken made new.session.market
  pub more : MakesAtEnd old.book new.book made
  pub fresh : new.fresh ≡ old.fresh ++ stored made
  pub aside : StaysAside old new

-- It stopped at the next entry of the file, at this place: nothing came of it, and the file was only looked at.
pub record StopsAt (old new : HostState) (disk now : DiskState) (Why : (place : ℕ) → List ℕ → Type 0) : Type 0 where
  pub place : ℕ
  pub ahead : AheadState
  pub book : old.book ≡ Kept place ahead
  pub looks : OnlyLooks disk now
  pub why : IfSome disk.content (Why place)
  pub market : new.session.market ≡ old.session.market
  pub talk : new.session.talk ≡ old.session.talk
  pub entries : new.session.entries ≡ old.session.entries
  pub fresh : new.fresh ≡ old.fresh
  pub aside : StaysAside old new

-- at this place of a piece of the file is an entry of so many bytes, wherever the piece is from
abbrev pub IsEntryOf : AheadState → (place count : ℕ) → RecordPair → Type 0
IsEntryOf ahead place count pair =
    IsRecordPair pair × (length (pair_bytes pair) ≡ count)
    × ((bytes : List ℕ) → IsPiece ahead bytes → StatesAt place count bytes → (rest : List ℕ) × HasEntryAt place pair rest bytes)

-- the entry of so many bytes at this place was taken for a command
pub record TakesEntry (sender : Recipient) (line : ℕ) (command : Command) (old new : State) (place later count : ℕ) (ahead : AheadState) : Type 0 where
  pub held : RecordPair
  pub there : IsEntryOf ahead place count held
  pub moves : later ≡ place + (5 + count)
  pub pair : Pair Record Outcome
  pub asked : held.0 ≡ pair.asked
  pub answered : EncodesAnswer held.1 pair.answer
  pub answers : Answers IsAdmissibleOutcome old sender line command pair new

-- why the entry of so many bytes at this place wasn't taken for a command; nothing came of it, unless memory ran out
abbrev pub LeavesEntry : HostFault → Command → (old new : State) → (place count : ℕ) → AheadState → Type 0
LeavesEntry Memory command old new place count ahead = ⊤
LeavesEntry (Damaged at) command old new place count ahead =
    (at ≡ place) × ((bytes : List ℕ) → IsPiece ahead bytes → StatesAt place count bytes → IsDamagedAt place bytes) × IsUntouched old new
LeavesEntry (Rejected number) command old new place count ahead =
    (number ≡ old.entries + 1) × (bad : RecordPair) × IsEntryOf ahead place count bad × IsIllegalPair old.market bad × IsUntouched old new
LeavesEntry (Differs number) command old new place count ahead =
    (number ≡ old.entries + 1) × (other : RecordPair) × IsEntryOf ahead place count other × (¬ IsIllegalPair old.market other) × (other.0 ≢ record_of command) × IsUntouched old new
LeavesEntry fault command old new place count ahead = ⊥

-- why an entry of a number is no command's, at its place in the bytes of the file, in a market after these entries
abbrev pub WhyNot : HostFault → (number : ℕ) → Market → List Command → (place : ℕ) → List ℕ → Type 0
WhyNot (Damaged at) number market next place bytes = (place ≡ at) × IsDamagedAt place bytes
WhyNot (Rejected at) number market next place bytes = (at ≡ number) × IsEntryInvalid bytes place market
WhyNot (Differs at) number market next place bytes = (at ≡ number) × IsEntryOther bytes place market next
WhyNot fault number market next place bytes = ⊥

-- why a command got no entry
abbrev pub BreaksOne : HostFault → Command → (old new : HostState) (disk now : DiskState) (SameDisk : Type 0) → Type 0
BreaksOne Memory command old new disk now SameDisk = LeavesFile old.book disk now SameDisk old.session.market
BreaksOne Disk command old new disk now SameDisk = LeavesFile old.book disk now SameDisk old.session.market
BreaksOne fault command old new disk now SameDisk = StopsAt old new disk now (WhyNot fault (old.session.entries + 1) old.session.market (command ∷ []))

-- a book gets more
abbrev pub IsOpen : Book → Type 0
IsOpen (Kept place ahead) = ⊥
IsOpen (Open place) = ⊤

-- whether the next entry of the file was taken for a command, or there was none, and the file gets more
abbrev pub Replays : Bool → Recipient → (line : ℕ) → Command → (old new : HostState) (disk now : DiskState) (SameDisk : Type 0) → Type 0
Replays true sender line command old new disk now SameDisk =
    (pair : Pair Record Outcome) × Answers IsAdmissibleOutcome old.session sender line command pair new.session
    × FileGoes old.book new.book disk now SameDisk old.session.market (pair ∷ []) [] new.session.market × (new.fresh ≡ old.fresh) × StaysAside old new
    × MakesAtEnd old.book new.book []
Replays false sender line command old new disk now SameDisk =
    (new.session ≡ old.session) × IsOpen new.book × FileGoes old.book new.book disk now SameDisk old.session.market [] [] old.session.market
    × (new.fresh ≡ old.fresh) × StaysAside old new

-- a command was served, by the canonical rule, and its entry put to those of the line
pub record ServesOne (sender : Recipient) (line : ℕ) (command : Command) (old new : HostState) : Type 0 where
  pub pair : Pair Record Outcome
  pub serves : Serves old.session sender line command pair new.session
  pub answers : Answers IsAdmissibleOutcome old.session sender line command pair new.session
  pub fresh : new.fresh ≡ old.fresh ++ stored (pair ∷ [])
  pub aside : StaysAside old new

-- the most bytes that an entry with a plain answer takes on a disk
abbrev pub plain_stored_entry : ℕ
plain_stored_entry = longest_plain_pair + 5

-- Commands of a line got these entries, one after the other.
pub record AnswersAll (sender : Recipient) (line : ℕ) (commands : List Command) (old new : HostState) (disk now : DiskState) (SameDisk : Type 0) : Type 0 where
  pub taken : Entries
  pub made : Entries
  pub texts : Texts
  pub served : AreServed IsAdmissibleOutcome old.session.market old.session.talk.desks old.session.entries sender line commands (taken ++ made) texts new.session.market new.session.talk.desks
  pub said : new.session.talk.texts ≡ old.session.talk.texts ++ texts
  pub entries : new.session.entries ≡ old.session.entries + length (taken ++ made)
  pub goes : FileGoes old.book new.book disk now SameDisk old.session.market taken made new.session.market
  pub more : MakesAtEnd old.book new.book made
  pub fresh : new.fresh ≡ old.fresh ++ stored made
  pub aside : StaysAside old new

-- It stopped at an entry of the file: the first commands got entries, which were taken from the file.
pub record StopsAmong (sender : Recipient) (line : ℕ) (commands : List Command) (old new : HostState) (disk now : DiskState) (Why : (number : ℕ) → Market → List Command → (place : ℕ) → List ℕ → Type 0) : Type 0 where
  pub first : List Command
  pub next : List Command
  pub asks : next ≢ []
  pub parts : commands ≡ first ++ next
  pub taken : Entries
  pub texts : Texts
  pub served : AreServed IsAdmissibleOutcome old.session.market old.session.talk.desks old.session.entries sender line first taken texts new.session.market new.session.talk.desks
  pub said : new.session.talk.texts ≡ old.session.talk.texts ++ texts
  pub place : ℕ
  pub ahead : AheadState
  pub book : old.book ≡ Kept place ahead
  pub later : ℕ
  pub piece : AheadState
  pub goes : ReadsOn place later ahead piece disk now old.session.market taken new.session.market
  pub why : IfSome disk.content (Why (old.session.entries + (length taken + 1)) new.session.market next later)
  pub aside : StaysAside old new

-- why not all commands of a line got entries
abbrev pub BreaksAll : HostFault → Recipient → (line : ℕ) → List Command → (old new : HostState) (disk now : DiskState) (SameDisk : Type 0) → Type 0
BreaksAll Memory sender line commands old new disk now SameDisk = LeavesFile old.book disk now SameDisk old.session.market
BreaksAll Disk sender line commands old new disk now SameDisk = LeavesFile old.book disk now SameDisk old.session.market
BreaksAll fault sender line commands old new disk now SameDisk = StopsAmong sender line commands old new disk now (WhyNot fault)

-- A line was heard: its commands got these entries, the first ones taken from the file and the others made, and these texts are to be written.
pub record HearsLine (line : List ℕ) (old new : HostState) (disk now : DiskState) (SameDisk : Type 0) : Type 0 where
  pub taken : Entries
  pub made : Entries
  pub texts : Texts
  pub served : IsLineServed IsAdmissibleOutcome old.session.market old.session.talk.desks old.session.entries line (taken ++ made) texts new.session.market new.session.talk.desks
  pub said : new.session.talk.texts ≡ old.session.talk.texts ++ texts
  pub entries : new.session.entries ≡ old.session.entries + length (taken ++ made)
  pub goes : FileGoes old.book new.book disk now SameDisk old.session.market taken made new.session.market
  pub more : MakesAtEnd old.book new.book made
  pub fresh : new.fresh ≡ stored made
  pub aside : StaysAside old new

-- A line was heard, and it stopped at an entry of the file: the first commands of the line got entries, which were taken from the file.
pub record StopsWithin (line : List ℕ) (old new : HostState) (disk now : DiskState) (Why : (number : ℕ) → Market → List Command → (place : ℕ) → List ℕ → Type 0) : Type 0 where
  pub next : List Command
  pub asks : next ≢ []
  pub taken : Entries
  pub texts : Texts
  pub sender : Recipient
  pub begun : IsLineBegun IsAdmissibleOutcome old.session.market old.session.talk.desks old.session.entries line sender next taken texts new.session.market new.session.talk.desks
  pub said : new.session.talk.texts ≡ old.session.talk.texts ++ texts
  pub place : ℕ
  pub ahead : AheadState
  pub book : old.book ≡ Kept place ahead
  pub later : ℕ
  pub piece : AheadState
  pub goes : ReadsOn place later ahead piece disk now old.session.market taken new.session.market
  pub why : IfSome disk.content (Why (old.session.entries + (length taken + 1)) new.session.market next later)
  pub aside : StaysAside old new

-- why a line wasn't heard to its end
abbrev pub BreaksLine : HostFault → List ℕ → (old new : HostState) (disk now : DiskState) (SameDisk : Type 0) → Type 0
BreaksLine Memory line old new disk now SameDisk = LeavesFile old.book disk now SameDisk old.session.market
BreaksLine Disk line old new disk now SameDisk = LeavesFile old.book disk now SameDisk old.session.market
BreaksLine fault line old new disk now SameDisk = StopsWithin line old new disk now (WhyNot fault)

-- ---- keeping and writing

-- the session with other texts, and else as it was
pub record SameSession (old new : State) : Type 0 where
  pub market : new.market ≡ old.market
  pub desks : new.talk.desks ≡ old.talk.desks
  pub entries : new.entries ≡ old.entries

-- the entries of the group were kept, if there were any; else the file is as it was
abbrev pub KeepsWaiting : (old new : HostState) (disk now : DiskState) (SameDisk : Type 0) → Type 0
KeepsWaiting old new disk now SameDisk =
    ((old.group ≡ []) × (new.book ≡ old.book) × SameDisk)
    ⊎ ((old.group ≢ []) × AddsTo old.group old.book new.book disk now × LeavesWithOrWithout old.group old.book disk now)

-- The entries that waited were kept, and then the texts of complete lines were written. Those of the line that is being answered are left.
pub record KeepsGroup (old new : HostState) (disk now : DiskState) (out later : Output) (SameDisk : Type 0) : Type 0 where
  pub keeps : KeepsWaiting old new disk now SameDisk
  pub group : new.group ≡ []
  pub fresh : new.fresh ≡ old.fresh
  pub session : SameSession old.session new.session
  pub gained : Gains ⊥ out later (unwritten old)
  pub left : drop new.written new.session.talk.texts ≡ drop old.told old.session.talk.texts
  pub told : new.told ≡ new.written
  pub within : new.written ≤ length new.session.talk.texts

-- the first of the texts of complete lines were written, the last of them perhaps in part
abbrev pub WritesFirst : HostState → Output → Output → Type 0
WritesFirst old out later = (count : ℕ) × (count ≤ old.told - old.written) × Gains ⊤ out later (take count (unwritten old))

-- why the entries that waited weren't kept, or the texts not written
abbrev pub BreaksGroup : HostFault → (old new : HostState) (disk now : DiskState) (out later : Output) (SameDisk : Type 0) → Type 0
BreaksGroup Disk old new disk now out later SameDisk = (later ≡ out) × (old.group ≢ []) × LeavesWithOrWithout old.group old.book disk now
BreaksGroup Write old new disk now out later SameDisk = KeepsWaiting old new disk now SameDisk × WritesFirst old out later
BreaksGroup fault old new disk now out later SameDisk = ⊥

-- the texts of complete lines were written, and are forgotten if there are no others
pub record WritesTexts (old new : HostState) (out later : Output) : Type 0 where
  pub session : SameSession old.session new.session
  pub gained : Gains ⊥ out later (unwritten old)
  pub left : drop new.written new.session.talk.texts ≡ drop old.told old.session.talk.texts
  pub told : new.told ≡ new.written
  pub within : new.written ≤ length new.session.talk.texts

-- a host is as it was
pub record IsSameHost (old new : HostState) : Type 0 where
  pub session : new.session ≡ old.session
  pub book : new.book ≡ old.book
  pub group : new.group ≡ old.group
  pub fresh : new.fresh ≡ old.fresh
  pub told : new.told ≡ old.told
  pub written : new.written ≡ old.written

-- what waits was kept and written; or, unless it is the last time before more is read, nothing was done
abbrev pub MaySettle : Bool → (old new : HostState) (disk now : DiskState) (out later : Output) (SameDisk SameOut : Type 0) → Type 0
MaySettle is_last old new disk now out later SameDisk SameOut =
    KeepsGroup old new disk now out later SameDisk ⊎ ((¬ IsTrue is_last) × IsSameHost old new × SameDisk × SameOut)

-- The entries of a line joined those that wait: nothing was kept or written, or those that waited before were.
pub record EndsLine (old new : HostState) (disk now : DiskState) (out later : Output) (SameDisk SameOut : Type 0) : Type 0 where
  pub session : SameSession old.session new.session
  pub fresh : new.fresh ≡ []
  pub told : new.told ≡ length new.session.talk.texts
  pub within : new.written ≤ new.told
  pub joins : ((new.group ≡ old.group ++ old.fresh) × (new.book ≡ old.book) × (new.session.talk.texts ≡ old.session.talk.texts) × (new.written ≡ old.written) × SameDisk × SameOut)
      ⊎ ((new.group ≡ old.fresh) × KeepsWaiting old new disk now SameDisk × Gains ⊥ out later (unwritten old)
      × (drop new.written new.session.talk.texts ≡ drop old.told old.session.talk.texts))

-- why a line wasn't ended
abbrev pub BreaksEnd : HostFault → (old new : HostState) (disk now : DiskState) (out later : Output) (SameDisk SameOut : Type 0) → Type 0
BreaksEnd Memory old new disk now out later SameDisk SameOut = (SameDisk × SameOut) ⊎ (KeepsWaiting old new disk now SameDisk × Gains ⊥ out later (unwritten old))
BreaksEnd fault old new disk now out later SameDisk SameOut = BreaksGroup fault old new disk now out later SameDisk

-- a fault at an entry of the file
abbrev pub IsAtEntry : HostFault → Type 0
IsAtEntry (Damaged place) = ⊤
IsAtEntry (Rejected number) = ⊤
IsAtEntry (Differs number) = ⊤
IsAtEntry fault = ⊥

-- It ended at a fault: at one at an entry of the file all texts were written, or a write failed; at another none was.
abbrev pub StopsHere : (fault result : HostFault) (old : HostState) (out later : Output) (SameOut : Type 0) → Type 0
StopsHere fault result old out later SameOut =
    ((¬ IsAtEntry fault) × (result ≡ fault) × SameOut)
    ⊎ (IsAtEntry fault × (((result ≡ fault) × Gains ⊥ out later (drop old.written old.session.talk.texts))
    ⊎ ((result ≡ Write) × (count : ℕ) × Gains ⊤ out later (take count (drop old.written old.session.talk.texts)))))

-- A line was heard that is too long: it adds no entry, and all texts are of complete lines.
pub record AnswersLong (line : List ℕ) (old new : HostState) : Type 0 where
  pub texts : Texts
  pub served : IsLineServed IsAdmissibleOutcome old.session.market old.session.talk.desks old.session.entries line [] texts new.session.market new.session.talk.desks
  pub said : new.session.talk.texts ≡ old.session.talk.texts ++ texts
  pub entries : new.session.entries ≡ old.session.entries
  pub book : new.book ≡ old.book
  pub group : new.group ≡ old.group
  pub fresh : new.fresh ≡ old.fresh
  pub written : new.written ≡ old.written

-- ---- all lines

-- A file that was read to its end got more, and others wait: the market after the old entries, those that were kept since then, by the canonical rule, and that those
-- that wait follow them by it. There is one of these at least, unless the file was new. What a crash left since the start: what it might have left then, or the old
-- entries and the first of these.
pub record Appends (begin : Start) (start : DiskState) (place : ℕ) (now : DiskState) (safe waiting : Entries) (market : Market) : Type 0 where
  pub old : Entries
  pub opened : Market
  pub kept : Entries
  pub between : Market
  pub parts : safe ≡ old ++ kept
  pub continues : IfSome start.content (λ held. Continues held begin old opened)
  pub goes_on : GoesOn begin old opened kept between
  pub keeps : IfSome start.content (λ _. Keeps (head_of begin) (map records_of (old ++ kept)) place now)
  pub during : (was : Start) (legal : Entries) (m : Market) → HoldsLegal start was legal m → DuringCall begin start now old kept
  pub told : IsSome now.content → IsSome start.content
  pub more : (0 < length kept + length waiting) ⊎ IfSome start.content (λ held. IsOpening held opening.New)
  pub steps : Follows IsReadAs IsCanonicalOutcome between waiting market
  pub fits : All IsPair waiting

-- the file has these entries, and these wait, in a market that begins so
abbrev pub IsFileAt : Start → DiskState → Book → DiskState → (safe waiting : Entries) → Market → Type 0
IsFileAt begin start (Kept place ahead) now safe waiting market = (waiting ≡ []) × IsReadAlong begin place ahead start now safe market
IsFileAt begin start (Open place) now safe waiting market = Appends begin start place now safe waiting market

-- these entries are the old ones of a valid journal, or all of the first of these lines
abbrev pub AreWhole : Start → List (List ℕ) → (legal all : Entries) → Type 0
AreWhole begin read legal all = (all ≡ legal) ⊎ AreOfWholeLines begin read all

-- of a file that gets more: at each moment since the start a crash left of each of these lines all new entries or none, and the file has such entries
abbrev pub IsWholeAt : Start → DiskState → (read : List (List ℕ)) → Book → DiskState → (safe : Entries) → Type 0
IsWholeAt begin start read (Kept place ahead) now safe = ⊤
IsWholeAt begin start read (Open place) now safe =
    (was : Start) (legal : Entries) (m : Market) → HoldsLegal start was legal m → AtEachMoment start now (LeavesWholeLines begin read start legal) × AreWhole begin read legal safe

-- The entries of the file that aren't among these first ones are old ones of a valid journal.
abbrev pub AreOthersOld : DiskState → (first safe : Entries) → Type 0
AreOthersOld start first safe = (was : Start) (legal : Entries) (m : Market) → HoldsLegal start was legal m → (length safe ≤ length first) ⊎ (length safe ≤ length legal)

-- The first of these lines were answered with these texts, and their entries are among the first ones of the file, with all that it got since the start.
abbrev pub AreToldOf : Start → DiskState → (read : List (List ℕ)) → (gone : Texts) → (safe : Entries) → Type 0
AreToldOf begin start read gone safe =
    (done : List (List ℕ)) × (rest : List (List ℕ)) × (read ≡ done ++ rest) × (first : Entries) × (others : Entries) × (safe ≡ first ++ others)
    × (market : Market) × (desks : Desks) × AreHosted begin done first gone market desks × AreOthersOld start first safe

-- These lines were heard, completely: which entries they asked for, in the file or waiting, which texts were written, and which are to be.
pub record IsAt (begin : Start) (start : DiskState) (first : Output) (read : List (List ℕ)) (h : HostState) (now : DiskState) (out : Output) : Type 0 where
  pub pairs : Entries
  pub texts : Texts
  pub hosted : AreHosted begin read pairs texts h.session.market h.session.talk.desks
  pub entries : h.session.entries ≡ length pairs
  pub counts : CountsAccounts h.session
  pub none : h.fresh ≡ []
  pub safe : Entries
  pub waiting : Entries
  pub parts : pairs ≡ safe ++ waiting
  pub group : h.group ≡ stored waiting
  pub file : IsFileAt begin start h.book now safe waiting h.session.market
  pub whole : IsWholeAt begin start read h.book now safe
  pub all_told : h.told ≡ length h.session.talk.texts
  pub order : h.written ≤ h.told
  pub gone : Texts
  pub said : texts ≡ gone ++ drop h.written h.session.talk.texts
  pub gained : Gains ⊥ first out gone
  pub told : AreToldOf begin start read gone safe

-- how far the counts and the file can be after so many lines
pub record IsWithinLines (lines : ℕ) (h : HostState) : Type 0 where
  pub within : IsWithin (33 * lines) h.session
  pub place : place_of h.book + length h.group ≤ 2 ^ 60 + longest_stored_entry * lines
  pub short : length h.group ≤ 2 ^ 20

-- The lines before those that a window holds now were heard: these bytes were taken of the input.
pub record HasGone (begin : Start) (limit : ℕ) (window : WindowState) (content left : Option (List ℕ)) (read : List (List ℕ)) : Type 0 where
  pub starts : CanStart begin
  pub taken : List ℕ
  pub takes : Takes content left taken
  pub pieces : All HasNoFeed read
  pub whole : taken ≡ bytes_before begin ++ (ended_by_feeds read ++ window.held)
  pub place : window.place ≡ length (bytes_before begin) + length (ended_by_feeds read)
  pub limited : window.limit ≡ limit
  pub is_open : IsOpenFor most_envelope window left

-- Where the loop is: lines were heard since the beginning of the input.
pub record IsHosting (limit : ℕ) (content left : Option (List ℕ)) (start now : DiskState) (first out : Output) (window : WindowState) (h : HostState) : Type 0 where
  pub begin : Start
  pub alone : IfSome start.content (BeginsAlone begin)
  pub read : List (List ℕ)
  pub at : IsAt begin start first read h now out
  pub gone : HasGone begin limit window content left read
  pub within : IsWithinLines (length read) h
