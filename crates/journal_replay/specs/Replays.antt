-- What an audit of the entries of a journal returns, and what a replay of a journal does.
use Rattle.std.specs.Prelude.{◌≡◌, ◌+◌, ℕ, List, [], ◌∷◌, ◌++◌, map, length, Result, Ok, Err}
use Rattle.wire_records.specs.Records.{Record}
use Rattle.wire_records.specs.Commands.{Pair}
use Rattle.wire_records.specs.Grammars.{BeginsWith, encode_all}
use Rattle.wire_records.specs.Reading.{Ending, End, NotFlow, Reads}
use Rattle.wire_records.specs.Reading as reading
use Rattle.wire_records.specs.declared.version.Version.{Version}
use Rattle.file_units.specs.Units.{ending_of}
use Rattle.flow_orders.specs.Outcomes.{Outcome}
use Rattle.journal_records.specs.Formats.{journals, records_of}
use Rattle.market_rules.specs.Market.{Market}
use Rattle.market_rules.specs.Allocating.{RecordMayAllocate}
use Rattle.batch_audit.specs.Legal.{IsLegalJournal}
use Rattle.journal_replay.specs.declared.auditing.Audited.{Audited}
use Rattle.journal_replay.specs.declared.auditing.PairFault.{PairFault}
use Rattle.journal_replay.specs.declared.auditing.PairFault.TheVariants as fault
use Rattle.journal_replay.specs.declared.replaying.ReplayFault.{ReplayFault}
use Rattle.journal_replay.specs.declared.replaying.ReplayFault.TheVariants.{NotJournal, Torn, Illegal, Memory}
use Rattle.journal_replay.specs.Audits.{AuditsOn, Audits}

-- All complete entries are valid: this is how the reading ends, and the market that they make.
pub record FindsLegal (version : Version) (place : ℕ) (More : Type 0) (bytes : List ℕ) (found : Audited) : Type 0 where
  pub legal : List (Pair Record Outcome)
  pub audits : AuditsOn version place More bytes legal [] (ending_of found.ending) found.market

-- An entry is invalid, and it is the first: this is its number, counted from 1.
pub record FindsIllegal (version : Version) (place : ℕ) (More : Type 0) (bytes : List ℕ) (number : ℕ) : Type 0 where
  pub legal : List (Pair Record Outcome)
  pub bad : Record × Record
  pub more : List (Record × Record)
  pub ending : Ending
  pub market : Market
  pub audits : AuditsOn version place More bytes legal (bad ∷ more) ending market
  pub counted : number ≡ length legal + 1

-- Valid entries come first, and after them one whose command may allocate in the market that they make.
pub record FindsAllocating (version : Version) (bytes : List ℕ) : Type 0 where
  pub legal : List (Pair Record Outcome)
  pub next : Record × Record
  pub rest : List ℕ
  pub market : Market
  pub journal : IsLegalJournal version legal market
  pub lawful : journals.units.IsLawful next
  pub begins : bytes ≡ encode_all journals.units (map records_of legal) ++ (journals.units.encode next ++ rest)
  pub allocates : RecordMayAllocate market next.0

-- what an audit found, by the fault that it returns
abbrev pub FindsFault : Version → ℕ → Type 0 → List ℕ → PairFault → Type 0
FindsFault version place More bytes (fault.Illegal number) = FindsIllegal version place More bytes number
FindsFault version place More bytes fault.Memory = FindsAllocating version bytes

-- the bytes are a journal in which some entry is invalid, and the first such entry has this number, counted from 1
pub record HasIllegal (limit : ℕ) (bytes : List ℕ) (number : ℕ) : Type 0 where
  pub legal : List (Pair Record Outcome)
  pub bad : Record × Record
  pub more : List (Record × Record)
  pub ending : Ending
  pub market : Market
  pub audits : Audits limit bytes legal (bad ∷ more) ending market
  pub counted : number ≡ length legal + 1

-- the bytes are the magic of a version, valid entries, and one after them whose command may allocate
pub record HasAllocation (bytes : List ℕ) : Type 0 where
  pub version : Version
  pub following : List ℕ
  pub begins : BeginsWith journals.magics bytes version following
  pub finds : FindsAllocating version following

-- what a replay of all the bytes returns: the market of a valid journal; or that an entry isn't complete, with the
-- place of its first byte, or isn't valid, whichever comes first; or that memory ran out after valid entries, at
-- one whose command may allocate
abbrev pub IsReplayed : List ℕ → Result Market ReplayFault → Type 0
IsReplayed bytes (Ok market) = (legal : List (Pair Record Outcome)) × Audits (length bytes) bytes legal [] End market
IsReplayed bytes (Err NotJournal) = Reads journals (length bytes) bytes NotFlow
IsReplayed bytes (Err (Torn place)) =
    (legal : List (Pair Record Outcome)) × (market : Market) × Audits (length bytes) bytes legal [] (reading.Torn place) market
IsReplayed bytes (Err (Illegal number)) = HasIllegal (length bytes) bytes number
IsReplayed bytes (Err Memory) = HasAllocation bytes
