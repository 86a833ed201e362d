-- Definitions that only private functions use: why there is nothing to resume from, and how an input ends.
use Rattle.std.specs.Prelude.{◌≡◌, ◌⊎◌, ℕ, List, [], ◌++◌, Option, Ok, Err, All}
use Rattle.flow_io.specs.Streams.{Grows, GrowsByPrefix}
use Rattle.wire_records.specs.Records.{Record}
use Rattle.wire_records.specs.Grammars.{BeginsWith, encode_all}
use Rattle.wire_records.specs.Formats.{commands, command_magic_of}
use Rattle.market_rules.specs.Market.{Market}
use Rattle.market_rules.specs.Allocating.{RecordMayAllocate}
use Rattle.word_driver.specs.Ended.{Ended}
use Rattle.word_driver.specs.declared.fault.Fault.TheVariants.{Read, Write, Memory, NotFlow, Torn, TooLong, Stopped}
use Rattle.session_resume.specs.declared.first.FirstFault.{FirstFault}
use Rattle.session_resume.specs.declared.first.FirstFault.TheVariants as fault
use Rattle.session_resume.specs.declared.first.Unfit.{Unfit}
use Rattle.session_resume.specs.Firsts.{Neither, NoCheckpoint, Illegal, IsFirst}
use Rattle.session_resume.specs.Continuing.{Continues}

-- why there is nothing to resume from
abbrev pub IsFirstFault : List ℕ → FirstFault → Type 0
IsFirstFault bytes fault.Neither = IsFirst bytes Neither
IsFirstFault bytes fault.NoCheckpoint = IsFirst bytes NoCheckpoint
IsFirstFault bytes (fault.Illegal number) = IsFirst bytes (Illegal number)
IsFirstFault bytes fault.Memory = Unit {0}

-- The bytes begin with these records, and the text is that of their entries.
pub record WritesFirst (old : Market) (body : List ℕ) (records : List Record) (left : List ℕ) (new : Market) (text : List ℕ) : Type 0 where
  pub whole : body ≡ encode_all commands.units records ++ left
  pub each : All commands.units.IsLawful records
  pub writes : Continues old records new text

-- The text is that of the entries of some first records.
abbrev pub WritesInto : Market → List ℕ → List ℕ → Type 0
WritesInto old body text = (records : List Record) × (left : List ℕ) × (new : Market) × WritesFirst old body records left new text

-- The text is that of the entries of the records before one that may allocate.
pub record WritesShort (old : Market) (body : List ℕ) (text : List ℕ) : Type 0 where
  pub records : List Record
  pub left : List ℕ
  pub new : Market
  pub next : Record
  pub following : List ℕ
  pub first : WritesFirst old body records left new text
  pub stands : BeginsWith commands.units left next following
  pub allocates : RecordMayAllocate new next

-- the text is that of the entries of some first records of a rest that is a command file of the market's version
abbrev pub IntoAfter : Market → List ℕ → List ℕ → Type 0
IntoAfter market rest text = (body : List ℕ) × (rest ≡ command_magic_of market.version ++ body) × WritesInto market body text

-- the text is that of the entries of the records before one that may allocate, in a rest that is a command file of the
-- market's version
abbrev pub ShortAfter : Market → List ℕ → List ℕ → Type 0
ShortAfter market rest text = (body : List ℕ) × (rest ≡ command_magic_of market.version ++ body) × WritesShort market body text

-- What was written, by the result: the text of that result; of a failed write a prefix of the text for some first
-- records; and nothing, or the text before a record that may allocate, if memory ran out.
module _ (Comes : Ended Unfit → List ℕ → Type 0) (Into Short : List ℕ → Type 0) where
  abbrev pub EndsResuming : Ended Unfit → Option (List ℕ) → Option (List ℕ) → Type 0
  EndsResuming (Ok done) before after = (text : List ℕ) × Comes (Ok tt) text × Grows before after text
  EndsResuming (Err NotFlow) before after = (text : List ℕ) × Comes (Err NotFlow) text × Grows before after text
  EndsResuming (Err (Torn place)) before after = (text : List ℕ) × Comes (Err (Torn place)) text × Grows before after text
  EndsResuming (Err TooLong) before after = (text : List ℕ) × Comes (Err TooLong) text × Grows before after text
  EndsResuming (Err (Stopped why)) before after = (text : List ℕ) × Comes (Err (Stopped why)) text × Grows before after text
  EndsResuming (Err Write) before after = (text : List ℕ) × Into text × GrowsByPrefix before after text
  EndsResuming (Err Memory) before after = (text : List ℕ) × ((text ≡ []) ⊎ Short text) × Grows before after text
  EndsResuming (Err Read) before after = ⊥
