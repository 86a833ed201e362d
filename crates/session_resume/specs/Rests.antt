-- What follows the first part of an input, and what it results in.
use Rattle.std.specs.Prelude.{◌≡◌, ◌≢◌, ◌+◌, ◌<◌, ℕ, List, [], ◌++◌, length, Ok, Err}
use Rattle.wire_records.specs.Records.{Record}
use Rattle.wire_records.specs.Reading.{Ending, ReadsOn, EndsAs}
use Rattle.wire_records.specs.Reading as reading
use Rattle.wire_records.specs.Formats.{commands, command_magic_of}
use Rattle.wire_records.specs.declared.version.Version.{Version}
use Rattle.journal_records.specs.Formats.{journals}
use Rattle.market_rules.specs.Market.{Market}
use Rattle.word_driver.specs.Ended.{Ended}
use Rattle.word_driver.specs.declared.fault.Fault.TheVariants.{Torn, TooLong}
use Rattle.session_resume.specs.declared.first.Origin.{Origin}
use Rattle.session_resume.specs.declared.first.Origin.TheVariants.{Journal, Checkpoint}
use Rattle.session_resume.specs.declared.first.Unfit.{Unfit}
use Rattle.session_resume.specs.Continuing.{Continues}

-- what the rest is, by whether the input has more after it
pub data Rest : Type 0 where
  -- fewer bytes than a magic has, and the input has more
  Cut : Rest
  -- no bytes, and the input has no more
  Nothing : Rest
  -- a command file of the version, with these bytes after its magic
  Commands : List ℕ → Rest
  -- anything else
  Other : Rest

-- the rest is this
abbrev pub IsRest : Version → Type 0 → List ℕ → Rest → Type 0
IsRest version More rest Cut = (length rest < 8) × More
IsRest version More rest Nothing = (rest ≡ []) × (¬ More)
IsRest version More rest (Commands body) = rest ≡ command_magic_of version ++ body
IsRest version More rest Other = (¬ ((length rest < 8) × More)) × (rest ≢ []) × ((body : List ℕ) → rest ≢ command_magic_of version ++ body)

-- the result for an ending of a reading
abbrev pub ended_by : Ending → Ended Unfit
ended_by reading.End = Ok tt
ended_by (reading.Torn place) = Err (Torn place)
ended_by reading.TooLong = Err TooLong

-- All complete records from this place of the input on are answered, and their reading ends so.
pub record ServesAll (old : Market) (More : Type 0) (place : ℕ) (body : List ℕ) (ended : Ended Unfit) (text : List ℕ) : Type 0 where
  pub records : List Record
  pub ending : Ending
  pub new : Market
  pub reads : ReadsOn commands place More body records ending
  pub ends : ended ≡ ended_by ending
  pub writes : Continues old records new text

-- the result for a rest that is no command file: after a journal it is read as more entries, of which none is complete;
-- after a checkpoint it is truncated
abbrev pub IsNoFile : Origin → Type 0 → ℕ → List ℕ → Ended Unfit → Type 0
IsNoFile Journal More place rest ended = (ending : Ending) × EndsAs journals More rest place ending × (ended ≡ ended_by ending)
IsNoFile Checkpoint More place rest ended = ended ≡ Err (Torn place)

-- the result for the rest at this place, and what is written
abbrev pub RestComesTo : Origin → Market → Type 0 → ℕ → List ℕ → Rest → Ended Unfit → List ℕ → Type 0
RestComesTo origin market More place rest Cut ended text = (ended ≡ Err TooLong) × (text ≡ [])
RestComesTo origin market More place rest Nothing ended text = (ended ≡ Ok tt) × (text ≡ [])
RestComesTo origin market More place rest (Commands body) ended text = ServesAll market More (place + 8) body ended text
RestComesTo origin market More place rest Other ended text = IsNoFile origin More place rest ended × (text ≡ [])
