-- Laws between the program's subcommands and of their outcomes, whatever code there is.
use Rattle.std.specs.Prelude.{◌≡◌, ◌≢◌, ◌⊎◌, ◌<◌, ◌≤◌, ◌+◌, ◌^◌, ◌↔◌, ℕ, List, [], ◌++◌, length, take, map, All, Ok, Some, None}
use Rattle.std.specs.List.{flat_map}
use Rattle.wire_records.specs.Records.{Record}
use Rattle.wire_records.specs.Commands.{Pair}
use Rattle.wire_records.specs.CommandRecords.{record_of}
use Rattle.wire_records.specs.Versions.{IsReadAs}
use Rattle.wire_records.specs.Reading.{Reads, File, End}
use Rattle.wire_records.specs.declared.version.Version.{Version}
use Rattle.wire_records.specs.Grammars.{BeginsWithNone, encode_all}
use Rattle.wire_records.specs.Formats.{commands, command_magic_of}
use Rattle.flow_orders.specs.Outcomes.{Outcome}
use Rattle.journal_records.specs.Pairs.{pair_encoding}
use Rattle.journal_records.specs.Formats.{journals, journal_magic_of, journal_in}
use Rattle.flow_accounts.specs.Balances.{IsAccount}
use Rattle.market_rules.specs.Market.{Market, empty_market, IsConsistent}
use Rattle.market_rules.specs.Deposits.{HoldsDeposits}
use Rattle.market_rules.specs.Laws.{Leads}
use Rattle.market_snapshot.specs.Checkpoints.{checkpoint_magic, checkpoint_bytes, IsCheckpoint, HasCheckpointMagic, BeginsWithNoCheckpoint}
use Rattle.market_history.specs.Histories.{Start, Kept, CanStart, market_of, encode_start}
use Rattle.batch_audit.specs.Legal.{IsLegalJournal, IsIllegalPair}
use Rattle.journal_replay.specs.Replays.{IsReplayed}
use Rattle.word_driver.specs.Ended.{Ended}
use Rattle.word_driver.specs.Word.{Goes}
use Rattle.encode_word.specs.declared.stop.EncodeStop.{EncodeStop}
use Rattle.encode_word.specs.Starts.{BeginsUnkept}
use Rattle.encode_word.specs.Encoding.{EncodesLines}
use Rattle.exchange_session.specs.Journals.{Journals}
use Rattle.exchange_session.specs.Running.{run}
use Rattle.session_resume.specs.Continuing.{Continues}
use Rattle.session_resume.specs.Firsts.{Whole, BeginsIllegal, IsFirst}
use Rattle.session_resume.specs.declared.first.Origin.{Origin}
use Rattle.journal_words.specs.Findings.{IsExplained}
use Rattle.journal_replay.specs.Audits.{cleared_in, skipped_in}
use Rattle.statement_rules.specs.Views.{Event, Sees}
use Rattle.statement_rules.specs.Holdings.{held_in, IsHeld}
use Rattle.statement_rules.specs.Statements.{statement, statement_from}
use Rattle.sample_market.specs.Files.{sample_file}
use Rattle.sample_summary.specs.Summary.{units_traded_in, summary_line}
use Rattle.flow_exchange.specs.Forms.{Asks}
use Rattle.flow_exchange.specs.declared.form.Form.{Form}
use Rattle.flow_exchange.specs.declared.form.Form.TheVariants.{Run, Audit, Explain, Report, Encode, Sample, Statement, Checkpoint, Resume}
use Rattle.exit_status.specs.declared.status.Status.{Status}
use Rattle.exit_status.specs.declared.status.Status.TheVariants.{Done, NotFlow, Torn, Rejected, NoAccount, BadCheckpoint}
use Rattle.flow_exchange.specs.HistoryFiles.{AreLegalFrom}
use Rattle.flow_exchange.specs.Auditing.{legal_line}
use Rattle.flow_exchange.specs.Promising.{AreCanonicallyKept}
use Rattle.flow_exchange.specs.Program.{ComesTo, GetsTo}

-- The bytes are what begins a history and then these valid entries, which lead to this market, and nothing is past the limit.
pub record EncodesHistory (limit : ℕ) (bytes : List ℕ) (start : Start) (pairs : List (Pair Record Outcome)) (market : Market) : Type 0 where
  pub begins : CanStart start
  pub legal : AreLegalFrom start pairs market
  pub encoded : bytes ≡ encode_start start ++ flat_map pair_encoding pairs
  pub within : length bytes ≤ limit

-- the bytes are this valid journal of a version, and nothing is past the limit
pub record EncodesLegal (limit : ℕ) (bytes : List ℕ) (version : Version) (pairs : List (Pair Record Outcome)) (market : Market) : Type 0 where
  pub journal : IsLegalJournal version pairs market
  pub encoded : bytes ≡ journal_in version pairs
  pub within : length bytes ≤ limit

-- an audit is done exactly for a history whose entries are all valid, with nothing past the limit, and the line counts them
abbrev pub DoneIsForHistories : Type 0
DoneIsForHistories = (limit : ℕ) (bytes text : List ℕ)
    → ComesTo Audit limit bytes Done text
    ↔ ((start : Start) × (pairs : List (Pair Record Outcome)) × (market : Market) × EncodesHistory limit bytes start pairs market × (text ≡ legal_line pairs))

-- A valid journal of any version is such a history, and of bytes that don't begin as a checkpoint nothing else is.
pub record DoneForLegalJournals : Type 0 where
  pub done : (limit : ℕ) (bytes : List ℕ) (version : Version) (pairs : List (Pair Record Outcome)) (market : Market)
      → EncodesLegal limit bytes version pairs market → ComesTo Audit limit bytes Done (legal_line pairs)
  pub only : (limit : ℕ) (bytes text : List ℕ) → (¬ HasCheckpointMagic bytes) → ComesTo Audit limit bytes Done text
      → (version : Version) × (pairs : List (Pair Record Outcome)) × (market : Market) × EncodesLegal limit bytes version pairs market × (text ≡ legal_line pairs)

-- The first `limit` bytes are what begins a history, valid entries, then two records that are no step of the market at their end, and some
-- rest; the two have this number, counted from 1.
pub record HasFirstIllegal (limit : ℕ) (bytes : List ℕ) (number : ℕ) : Type 0 where
  pub start : Start
  pub pairs : List (Pair Record Outcome)
  pub market : Market
  pub bad : Record × Record
  pub rest : List ℕ
  pub begins : CanStart start
  pub legal : AreLegalFrom start pairs market
  pub whole : take limit bytes ≡ encode_start start ++ (flat_map pair_encoding pairs ++ (journals.units.encode bad ++ rest))
  pub lawful : journals.units.IsLawful bad
  pub illegal : IsIllegalPair market bad
  pub counted : number ≡ length pairs + 1

-- an audit rejects an entry exactly if it is the first invalid one, and then writes nothing
abbrev pub RejectedIsFirstIllegal : Type 0
RejectedIsFirstIllegal = (limit number : ℕ) (bytes text : List ℕ)
    → ComesTo Audit limit bytes (Rejected number) text ↔ (HasFirstIllegal limit bytes number × (text ≡ []))

-- of bytes that don't begin as a checkpoint it is the first invalid entry of a journal
abbrev pub FirstIllegalOfJournals : Type 0
FirstIllegalOfJournals = (limit number : ℕ) (bytes : List ℕ)
    → BeginsIllegal (take limit bytes) number ↔ (HasFirstIllegal limit bytes number × (¬ HasCheckpointMagic (take limit bytes)))

-- what a subcommand over a history results in if none begins: in BadCheckpoint exactly if the considered bytes begin as a checkpoint and with
-- none of a consistent market, and in NotFlow exactly if they begin neither as a journal nor as a checkpoint; nothing is written
pub record EndsWhereNoneBegins (form : Form) : Type 0 where
  pub bad : (limit : ℕ) (bytes text : List ℕ) → ComesTo form limit bytes BadCheckpoint text
      ↔ (HasCheckpointMagic (take limit bytes) × BeginsWithNoCheckpoint (take limit bytes) × (text ≡ []))
  pub not_flow : (limit : ℕ) (bytes text : List ℕ) → ComesTo form limit bytes NotFlow text
      ↔ (BeginsWithNone journals.magics (take limit bytes) × (¬ HasCheckpointMagic (take limit bytes)) × (text ≡ []))

-- each subcommand over a history ends so
pub record BadIsUnsound : Type 0 where
  pub audit : EndsWhereNoneBegins Audit
  pub explain : EndsWhereNoneBegins Explain
  pub report : EndsWhereNoneBegins Report
  pub checkpoint : EndsWhereNoneBegins Checkpoint
  pub statement : (account : ℕ) → EndsWhereNoneBegins (Statement account)

-- the magic of a journal or a command file of any version, or that of a checkpoint
abbrev pub IsMagic : List ℕ → Type 0
IsMagic magic = (magic ≡ checkpoint_magic) ⊎ (((version : Version) × (magic ≡ journal_magic_of version)) ⊎ ((version : Version) × (magic ≡ command_magic_of version)))

-- a magic after the entries of a history is no entry: an audit ends there as Torn, at its place in the whole input
abbrev pub TornAtMagics : Type 0
TornAtMagics = (limit : ℕ) (bytes magic more : List ℕ) (start : Start) (pairs : List (Pair Record Outcome)) (market : Market) → CanStart start → AreLegalFrom start pairs market → IsMagic magic
    → take limit bytes ≡ (encode_start start ++ flat_map pair_encoding pairs) ++ (magic ++ more) → ComesTo Audit limit bytes (Torn (length (encode_start start ++ flat_map pair_encoding pairs))) []

-- an explanation results in the status of an audit, and in its line unless an entry is rejected
abbrev pub ExplainIsAudit : Type 0
ExplainIsAudit = (limit : ℕ) (bytes text line : List ℕ) (status other : Status) → ComesTo Explain limit bytes status text → ComesTo Audit limit bytes other line
    → (status ≡ other) × (((number : ℕ) → status ≢ Rejected number) → text ≡ line)

-- an explanation rejects an entry exactly if it is the first invalid one, with the line of what is found of it
abbrev pub RejectedIsExplained : Type 0
RejectedIsExplained = (limit number : ℕ) (bytes text : List ℕ)
    → ComesTo Explain limit bytes (Rejected number) text ↔ ((first : HasFirstIllegal limit bytes number) × IsExplained first.market number first.bad text)

-- the lines of the first `limit` bytes are encoded, after what is before them
abbrev pub AreEncoded : Version → ℕ → List ℕ → Ended EncodeStop → List ℕ → Type 0
AreEncoded version limit bytes ended text = EncodesLines version (limit < length bytes) (take limit bytes) ended text

-- what is encoded is a command file of the version, which is read to its end as the records of the commands that the lines ask for, and each
-- of these records as its command
abbrev pub EncodedIsRead : Type 0
EncodedIsRead = (version : Version) (limit most : ℕ) (bytes text : List ℕ) (ended : Ended EncodeStop) (encoded : AreEncoded version limit bytes ended text) → length text ≤ most
    → Reads commands most text (File version (map record_of encoded.comes.commands) End) × All (λ command. IsReadAs version (record_of command) (Ok command)) encoded.comes.commands

-- a run of what is encoded is done, and writes the journal of the commands' records, each with its reply
abbrev pub EncodedIsServed : Type 0
EncodedIsServed = (version : Version) (limit most : ℕ) (bytes text journal : List ℕ) (ended : Ended EncodeStop) (ran : Status) (encoded : AreEncoded version limit bytes ended text) → length text ≤ most
    → ComesTo Run most text ran journal → (ran ≡ Done) × (market : Market) × Journals version (map record_of encoded.comes.commands) market journal

-- so is a resumption of it after the checkpoint that is before the lines, and it writes the entries of these records from its market on
abbrev pub EncodedIsResumed : Type 0
EncodedIsResumed = (version : Version) (limit most : ℕ) (bytes text checkpoint entries : List ℕ) (ended : Ended EncodeStop) (resumed : Status) (market : Market) (encoded : AreEncoded version limit bytes ended text)
    → encoded.start ≡ Some market → IsCheckpoint market checkpoint → length (checkpoint ++ text) ≤ most
    → ComesTo Resume most (checkpoint ++ text) resumed entries → (resumed ≡ Done) × (new : Market) × Continues market (map record_of encoded.comes.commands) new entries

-- a checkpoint before lines is bad exactly if the input begins as one, and within the limit with one of no market of the version, whether it
-- has more or not; then nothing is written
abbrev pub BadBeforeLines : Type 0
BadBeforeLines = (version : Version) (limit : ℕ) (bytes text : List ℕ) → ComesTo (Encode version) limit bytes BadCheckpoint text ↔ (BeginsUnkept version (take limit bytes) × (text ≡ []))

-- What a run writes is a valid journal, and an audit of it is done: of the whole text, and of a part of it that a run cut short may have
-- written, if that isn't empty. Its entries keep the promises of the exchange.
pub record RunsAreAudited : Type 0 where
  pub journal : (most : ℕ) (version : Version) (records : List Record) (market : Market) (text : List ℕ) (writes : Journals version records market text)
      → most < 2 ^ 64 → length text ≤ most → IsLegalJournal version writes.pairs market × ComesTo Audit most text Done (legal_line writes.pairs)
  pub done : (limit most : ℕ) (bytes text : List ℕ) (status : Status) → ComesTo Run limit bytes status text → status ≢ NotFlow
      → most < 2 ^ 64 → length text ≤ most → (line : List ℕ) × ComesTo Audit most text Done line
  pub begun : (limit most : ℕ) (bytes text : List ℕ) → GetsTo Run limit bytes text → text ≢ []
      → most < 2 ^ 64 → length text ≤ most → (line : List ℕ) × ComesTo Audit most text Done line
  pub keeps : (version : Version) (records : List Record) (market : Market) (text : List ℕ) (writes : Journals version records market text) → AreCanonicallyKept (empty_market version) writes.pairs market

-- A statement is done exactly for a history whose entries are all valid, with nothing past the limit, in whose market at the end the
-- account is there; it begins with what is carried forward from the market in which the history begins, and is that of what the account
-- sees from there on. There is no account exactly for those in whose market it isn't, and nothing is written.
pub record StatementsOfHistories : Type 0 where
  pub done : (account limit : ℕ) (bytes text : List ℕ) → ComesTo (Statement account) limit bytes Done text
      ↔ ((start : Start) × (pairs : List (Pair Record Outcome)) × (market : Market) × (view : List Event) × EncodesHistory limit bytes start pairs market
      × Sees account (market_of start) pairs view market × IsAccount market.balances account × (text ≡ statement_from account (market_of start) view))
  pub absent : (account number limit : ℕ) (bytes text : List ℕ) → ComesTo (Statement account) limit bytes (NoAccount number) text
      ↔ ((start : Start) × (pairs : List (Pair Record Outcome)) × (market : Market) × EncodesHistory limit bytes start pairs market
      × (¬ IsAccount market.balances account) × (number ≡ account) × (text ≡ []))

-- Of a valid journal it is the statement of the view, to which nothing is carried forward; and of bytes that don't begin as a checkpoint it is
-- done for nothing else.
pub record StatementsOfLegalJournals : Type 0 where
  pub done : (account limit : ℕ) (bytes : List ℕ) (version : Version) (pairs : List (Pair Record Outcome)) (market : Market) (view : List Event) → EncodesLegal limit bytes version pairs market
      → Sees account (empty_market version) pairs view market → IsAccount market.balances account → ComesTo (Statement account) limit bytes Done (statement view)
  pub only : (account limit : ℕ) (bytes text : List ℕ) → (¬ HasCheckpointMagic bytes) → ComesTo (Statement account) limit bytes Done text
      → (version : Version) × (pairs : List (Pair Record Outcome)) × (market : Market) × (view : List Event) × EncodesLegal limit bytes version pairs market
      × Sees account (empty_market version) pairs view market × IsAccount market.balances account × (text ≡ statement view)

-- Two histories of which an account sees the same, from markets on in which it has the same, result in the same statement of it, whatever else
-- is in them; so do two valid journals of which it sees the same.
pub record OneViewOneStatement : Type 0 where
  pub histories : (account limit most : ℕ) (bytes others x y : List ℕ) (one other : Start) (pairs more : List (Pair Record Outcome)) (view : List Event) (m n : Market) (s t : Status)
      → EncodesHistory limit bytes one pairs m → EncodesHistory most others other more n → IsHeld account (market_of other) (held_in account (market_of one))
      → Sees account (market_of one) pairs view m → Sees account (market_of other) more view n
      → ComesTo (Statement account) limit bytes s x → ComesTo (Statement account) most others t y → (s ≡ t) × (x ≡ y)
  pub journals : (account limit most : ℕ) (bytes others x y : List ℕ) (one other : Version) (pairs more : List (Pair Record Outcome)) (view : List Event) (m n : Market) (s t : Status)
      → EncodesLegal limit bytes one pairs m → EncodesLegal most others other more n
      → Sees account (empty_market one) pairs view m → Sees account (empty_market other) more view n
      → ComesTo (Statement account) limit bytes s x → ComesTo (Statement account) most others t y → (s ≡ t) × (x ≡ y)

-- A history may be cut in two at any of its markets, the second part after the checkpoint of that market. If the account is there, the last
-- lines of the statement of the first part are the first ones of that of the second part, byte for byte. Without them both tell, one after the
-- other, what the statement of the whole tells. If it isn't there yet, the first part has no statement, and that of the second part is that of
-- the whole.
pub record StatementsGoOn : Type 0 where
  pub there : (account limit most within : ℕ) (whole first second : List ℕ) (start : Start) (pairs more : List (Pair Record Outcome)) (mid new : Market)
      → EncodesHistory limit whole start (pairs ++ more) new → EncodesHistory most first start pairs mid → EncodesHistory within second (Kept mid) more new → IsAccount mid.balances account
      → (prefix : List ℕ) × (carried : List ℕ) × (rest : List ℕ) × ComesTo (Statement account) most first Done (prefix ++ carried)
      × ComesTo (Statement account) within second Done (carried ++ rest) × ComesTo (Statement account) limit whole Done (prefix ++ rest)
  pub absent : (account limit most within : ℕ) (whole first second : List ℕ) (start : Start) (pairs more : List (Pair Record Outcome)) (mid new : Market)
      → EncodesHistory limit whole start (pairs ++ more) new → EncodesHistory most first start pairs mid → EncodesHistory within second (Kept mid) more new → (¬ IsAccount mid.balances account)
      → ComesTo (Statement account) most first (NoAccount account) []
      × ((status : Status) (text : List ℕ) → ComesTo (Statement account) within second status text ↔ ComesTo (Statement account) limit whole status text)

-- under a form that arguments ask for, no bytes are without a status and a text
abbrev pub NoneIsWithoutEnd : Type 0
NoneIsWithoutEnd = (words : List (List ℕ)) (form : Form) (limit : ℕ) (bytes : List ℕ) → Asks words form → ¬ ((status : Status) (text : List ℕ) → ¬ ComesTo form limit bytes status text)

-- The line on a sample is that of the journal which a run of the sample's file writes, and an audit of that journal is done.
pub record SampleIsRun (number orders most : ℕ) (line : List ℕ) : Type 0 where
  pub pairs : List (Pair Record Outcome)
  pub journal : List ℕ
  pub run : ComesTo Run most (sample_file number orders) Done journal
  pub audit : length journal ≤ most → ComesTo Audit most journal Done (legal_line pairs)
  pub told : line ≡ summary_line orders (cleared_in pairs) (skipped_in pairs) (units_traded_in pairs)

-- if a sample results in a status and a line, the line is the one on the journal that a run of its file writes
abbrev pub SamplesAreRun : Type 0
SamplesAreRun = (number orders limit most : ℕ) (bytes line : List ℕ) (status : Status) → ComesTo (Sample number orders) limit bytes status line
    → length (sample_file number orders) ≤ most → SampleIsRun number orders most line

-- what a form gets to, and so what the output may hold after a fault or after memory ran out, is a prefix of the text that the bytes determine
abbrev pub BegunIsAPrefix : Type 0
BegunIsAPrefix = (form : Form) (limit : ℕ) (bytes : List ℕ) (status : Status) (text begun : List ℕ)
    → ComesTo form limit bytes status text → GetsTo form limit bytes begun → (rest : List ℕ) × (text ≡ begun ++ rest)

-- The tickers by which lines name assets are those of the market that a run of their file leads to, and after a checkpoint of the market that
-- a resumption leads to.
pub record TickersAgree : Type 0 where
  pub ran : (version : Version) (limit : ℕ) (bytes text journal : List ℕ) (ended : Ended EncodeStop) (encoded : AreEncoded version limit bytes ended text) (market : Market)
      → encoded.start ≡ None → Journals version (map record_of encoded.comes.commands) market journal → market.tickers ≡ encoded.comes.reads.tickers
  pub resumed : (version : Version) (limit : ℕ) (bytes text entries : List ℕ) (ended : Ended EncodeStop) (encoded : AreEncoded version limit bytes ended text) (old market : Market)
      → encoded.start ≡ Some old → Continues old (map record_of encoded.comes.commands) market entries → market.tickers ≡ encoded.comes.reads.tickers

-- The bytes are the journal of some entries, and the text is that of entries that follow, which answer these records. Together they are one
-- valid journal, which leads to this market: a replay of it answers the market, and an audit of it is done.
pub record IsOneJournal (most : ℕ) (bytes : List ℕ) (records : List Record) (market : Market) (text : List ℕ) : Type 0 where
  pub version : Version
  pub pairs : List (Pair Record Outcome)
  pub more : List (Pair Record Outcome)
  pub before : bytes ≡ journal_in version pairs
  pub asked : map (λ (pair : Pair Record Outcome). pair.asked) more ≡ records
  pub following : text ≡ flat_map pair_encoding more
  pub whole : bytes ++ text ≡ journal_in version (pairs ++ more)
  pub legal : IsLegalJournal version (pairs ++ more) market
  pub replayed : IsReplayed (bytes ++ text) (Ok market)
  pub audited : ComesTo Audit most (bytes ++ text) Done (legal_line (pairs ++ more))

-- If a replay answered a market and a session answers records one after the other from it on, the replayed entries and those that follow are
-- one valid journal, whoever wrote its beginning. If the former are a run's journal of the records before, all entries are that of a run of
-- all records, as if there had been no stop.
pub record SessionsGoOn : Type 0 where
  pub legal : (most : ℕ) (bytes text : List ℕ) (old new : Market) (records : List Record) → IsReplayed bytes (Ok old) → Goes run old records new text
      → most < 2 ^ 64 → length (bytes ++ text) ≤ most → IsOneJournal most bytes records new text
  pub own : (most : ℕ) (version : Version) (bytes text : List ℕ) (at old new : Market) (first records : List Record)
      → Journals version first at bytes → IsReplayed bytes (Ok old) → Goes run old records new text
      → most < 2 ^ 64 → length (bytes ++ text) ≤ most → Journals version (first ++ records) new (bytes ++ text)
  pub same : (most : ℕ) (version : Version) (bytes text whole : List ℕ) (at old new last : Market) (first records : List Record)
      → Journals version first at bytes → IsReplayed bytes (Ok old) → Goes run old records new text
      → most < 2 ^ 64 → length (bytes ++ text) ≤ most → Journals version (first ++ records) last whole → (whole ≡ bytes ++ text) × (last ≡ new)

-- The rest begins with the command magic of the version, and these are all the complete records after it.
pub record AreNew (version : Version) (rest : List ℕ) (records : List Record) : Type 0 where
  pub left : List ℕ
  pub whole : rest ≡ command_magic_of version ++ (encode_all commands.units records ++ left)
  pub each : All commands.units.IsLawful records
  pub last : BeginsWithNone commands.units left

-- the records in a rest: those of a command file of the version, or none
abbrev pub NewRecords : Version → List ℕ → List Record → Type 0
NewRecords version rest records = AreNew version rest records ⊎ (((body : List ℕ) → rest ≢ command_magic_of version ++ body) × (records ≡ []))

-- ---- checkpoints

-- A checkpoint is done exactly for a history whose entries are all valid, with nothing past the limit, and is the bytes of the market at
-- its end. Its status is that of an audit, and nothing is written unless it is done.
pub record CheckpointsOfHistories : Type 0 where
  pub done : (limit : ℕ) (bytes text : List ℕ) → ComesTo Checkpoint limit bytes Done text
      ↔ ((start : Start) × (pairs : List (Pair Record Outcome)) × (market : Market) × EncodesHistory limit bytes start pairs market × (text ≡ checkpoint_bytes market))
  pub audited : (limit : ℕ) (bytes text line : List ℕ) (status other : Status) → ComesTo Checkpoint limit bytes status text → ComesTo Audit limit bytes other line → status ≡ other
  pub nothing : (limit : ℕ) (bytes text : List ℕ) (status : Status) → ComesTo Checkpoint limit bytes status text → status ≢ Done → text ≡ []

-- the market at the end of each history has a checkpoint, these bytes, while the numbers that its orders may have got are below 2^63
abbrev pub HistoriesHaveCheckpoints : Type 0
HistoriesHaveCheckpoints = (start : Start) (pairs : List (Pair Record Outcome)) (market : Market) → CanStart start → AreLegalFrom start pairs market
    → (market_of start).next_order + length pairs < 2 ^ 63 → IsCheckpoint market (checkpoint_bytes market)

-- The entries of a history may be cut anywhere: from the market there on, the later ones are valid exactly if they are in the whole, and
-- lead to the same market. So a checkpoint replaces the history that it was written for: with the same bytes after both, either both are
-- histories whose entries are all valid, with the same checkpoint at their ends, or neither is.
pub record HistoriesGoOn : Type 0 where
  pub cut : (start : Start) (pairs more : List (Pair Record Outcome)) (old new : Market) → AreLegalFrom start pairs old
      → AreLegalFrom (Kept old) more new ↔ AreLegalFrom start (pairs ++ more) new
  pub kept : (limit most within : ℕ) (history checkpoint rest text : List ℕ) (start : Start) (pairs : List (Pair Record Outcome)) (market : Market)
      → EncodesHistory within history start pairs market → IsCheckpoint market checkpoint → length (history ++ rest) ≤ limit → length (checkpoint ++ rest) ≤ most
      → ComesTo Checkpoint limit (history ++ rest) Done text ↔ ComesTo Checkpoint most (checkpoint ++ rest) Done text

-- the market of each valid journal whose length is below 2^64 has a checkpoint: the market's bytes
abbrev pub LegalJournalsHaveCheckpoints : Type 0
LegalJournalsHaveCheckpoints = (version : Version) (pairs : List (Pair Record Outcome)) (market : Market) → IsLegalJournal version pairs market
    → length (journal_in version pairs) < 2 ^ 64 → IsCheckpoint market (checkpoint_bytes market)

-- ---- resuming

-- no entry begins as a command file does
abbrev pub CommandFilesBeginNoPair : Type 0
CommandFilesBeginNoPair = (version : Version) (body : List ℕ) → BeginsWithNone journals.units (command_magic_of version ++ body)

-- The input is within the limit: it begins with what keeps this market, and nothing follows, or a command file of the market's version with
-- exactly these records.
pub record IsInput (limit : ℕ) (bytes : List ℕ) (market : Market) (records : List Record) : Type 0 where
  pub origin : Origin
  pub place : ℕ
  pub rest : List ℕ
  pub within : length bytes ≤ limit
  pub first : IsFirst bytes (Whole origin market place rest)
  pub following : ((rest ≡ []) × (records ≡ [])) ⊎ ((rest ≡ command_magic_of market.version ++ encode_all commands.units records) × All commands.units.IsLawful records)

-- How a resumption ends. Done: exactly if the input is complete, and the text is that of the entries of its records. Rejected: exactly at the
-- first invalid entry. BadCheckpoint and NotFlow: exactly if there is nothing to resume from. After these three nothing is written.
pub record ResumptionsEnd : Type 0 where
  pub done : (limit : ℕ) (bytes text : List ℕ) → ComesTo Resume limit bytes Done text
      ↔ ((market : Market) × (records : List Record) × (new : Market) × IsInput limit bytes market records × Continues market records new text)
  pub rejected : (limit number : ℕ) (bytes text : List ℕ) → ComesTo Resume limit bytes (Rejected number) text ↔ (BeginsIllegal (take limit bytes) number × (text ≡ []))
  pub bad : (limit : ℕ) (bytes text : List ℕ) → ComesTo Resume limit bytes BadCheckpoint text
      ↔ (HasCheckpointMagic bytes × BeginsWithNoCheckpoint bytes × (length bytes ≤ limit) × (text ≡ []))
  pub not_flow : (limit : ℕ) (bytes text : List ℕ) → ComesTo Resume limit bytes NotFlow text
      ↔ (BeginsWithNone journals.magics (take limit bytes) × (¬ HasCheckpointMagic (take limit bytes)) × (text ≡ []))

-- What is written for a rest after what keeps this market: the entries that answer the new records from the market on.
pub record IsWrittenAfter (market : Market) (rest text : List ℕ) : Type 0 where
  pub records : List Record
  pub new : Market
  pub are_new : NewRecords market.version rest records
  pub continues : Continues market records new text

-- Whatever the input begins with, and whatever its status, a resumption continues from that market. Its entries keep the promises of the
-- exchange. After each of them what is held is what was held at the start, and the accepted deposits less the accepted withdrawals of the entries so far.
pub record ResumptionsKeepPromises : Type 0 where
  pub goes_on : (limit place : ℕ) (bytes rest text : List ℕ) (origin : Origin) (market : Market) (status : Status) → IsFirst (take limit bytes) (Whole origin market place rest)
      → ComesTo Resume limit bytes status text → IsConsistent market × IsWrittenAfter market rest text
  pub keeps : (old new : Market) (records : List Record) (text : List ℕ) (writes : Continues old records new text) → IsConsistent old → AreCanonicallyKept old writes.pairs new
  pub after_each : (old new : Market) (records : List Record) (text : List ℕ) (writes : Continues old records new text) (before after : List (Pair Record Outcome)) → IsConsistent old
      → writes.pairs ≡ before ++ after → (market : Market) × Leads old before market × IsConsistent market × HoldsDeposits IsReadAs old before market

-- the bytes begin with what keeps the market of these valid entries, and this rest follows: their journal, if the rest begins with no complete
-- entry, or a checkpoint of the market
abbrev pub BeginsWithKept : Version → List (Pair Record Outcome) → Market → List ℕ → List ℕ → Type 0
BeginsWithKept version pairs market bytes rest =
    ((bytes ≡ journal_in version pairs ++ rest) × BeginsWithNone journals.units rest)
    ⊎ ((checkpoint : List ℕ) × IsCheckpoint market checkpoint × (bytes ≡ checkpoint ++ rest))

-- What is written for a rest after what keeps the market of these entries is with the entries one valid journal, of the old records and then
-- of the new ones. If the entries are a run's journal of the old records, the whole is that of a run of all records, as if there had been no
-- stop.
pub record JoinsJournal (most : ℕ) (version : Version) (pairs : List (Pair Record Outcome)) (market : Market) (rest text : List ℕ) : Type 0 where
  pub records : List Record
  pub new : Market
  pub are_new : NewRecords version rest records
  pub one : IsOneJournal most (journal_in version pairs) records new text
  pub own : (first : List Record) → Journals version first market (journal_in version pairs) → Journals version (first ++ records) new (journal_in version pairs ++ text)
  pub same : (first : List Record) (last : Market) (whole : List ℕ) → Journals version first market (journal_in version pairs)
      → Journals version (first ++ records) last whole → (whole ≡ journal_in version pairs ++ text) × (last ≡ new)

-- What is written after a valid journal, or after a checkpoint of its market, joins the journal, whoever wrote its beginning. What the output
-- holds after a read fault, or after memory ran out, does too.
pub record ResumptionsGoOn : Type 0 where
  pub whole : (limit most : ℕ) (bytes rest text : List ℕ) (version : Version) (pairs : List (Pair Record Outcome)) (market : Market) (status : Status) → IsLegalJournal version pairs market
      → BeginsWithKept version pairs market (take limit bytes) rest → ComesTo Resume limit bytes status text → most < 2 ^ 64 → length (journal_in version pairs ++ text) ≤ most
      → JoinsJournal most version pairs market rest text
  pub begun : (limit most : ℕ) (bytes rest text : List ℕ) (version : Version) (pairs : List (Pair Record Outcome)) (market : Market) → IsLegalJournal version pairs market
      → BeginsWithKept version pairs market (take limit bytes) rest → GetsTo Resume limit bytes text → most < 2 ^ 64 → length (journal_in version pairs ++ text) ≤ most
      → (line : List ℕ) × ComesTo Audit most (journal_in version pairs ++ text) Done line

-- both are done, or both are torn, equally far after these two places
abbrev pub EndAlike : (here there : ℕ) (status other : Status) → Type 0
EndAlike here there status other = ((status ≡ Done) × (other ≡ Done)) ⊎ ((n : ℕ) × (status ≡ Torn (here + n)) × (other ≡ Torn (there + n)))

-- After a valid journal and after a checkpoint of its market, if the same rest follows, a resumption writes the same entries; and if nothing is
-- past the limits, it ends alike. The checkpoint may be the one that is written for the journal.
pub record GoOnAlike : Type 0 where
  pub texts : (limit most : ℕ) (bytes others checkpoint rest x y : List ℕ) (version : Version) (pairs : List (Pair Record Outcome)) (market : Market) (status other : Status)
      → IsLegalJournal version pairs market → BeginsWithNone journals.units rest → IsCheckpoint market checkpoint
      → take limit bytes ≡ journal_in version pairs ++ rest → take most others ≡ checkpoint ++ rest
      → ComesTo Resume limit bytes status x → ComesTo Resume most others other y → x ≡ y
  pub ends : (limit most : ℕ) (checkpoint rest x y : List ℕ) (version : Version) (pairs : List (Pair Record Outcome)) (market : Market) (status other : Status)
      → IsLegalJournal version pairs market → BeginsWithNone journals.units rest → IsCheckpoint market checkpoint
      → length (journal_in version pairs ++ rest) ≤ limit → length (checkpoint ++ rest) ≤ most
      → ComesTo Resume limit (journal_in version pairs ++ rest) status x → ComesTo Resume most (checkpoint ++ rest) other y
      → (x ≡ y) × EndAlike (length (journal_in version pairs)) (length checkpoint) status other
  pub written : (limit most within : ℕ) (journal checkpoint rest x y : List ℕ) (status other : Status)
      → ComesTo Checkpoint within journal Done checkpoint → (¬ HasCheckpointMagic journal) → BeginsWithNone journals.units rest → limit < 2 ^ 64
      → length (journal ++ rest) ≤ limit → length (checkpoint ++ rest) ≤ most
      → ComesTo Resume limit (journal ++ rest) status x → ComesTo Resume most (checkpoint ++ rest) other y
      → (x ≡ y) × EndAlike (length journal) (length checkpoint) status other
