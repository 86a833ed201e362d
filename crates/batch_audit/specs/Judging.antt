-- What the audit of one entry returns, and what it makes of the audit's market.
use Rattle.std.specs.Prelude.{◌≡◌, ◌<◌, ℕ, Option, Some, None, Result, Ok, Err}
use Rattle.wire_records.specs.Records.{Record}
use Rattle.wire_records.specs.Commands.{RunBatch}
use Rattle.wire_records.specs.Commands as commands
use Rattle.wire_records.specs.Views.{command_of}
use Rattle.wire_records.specs.declared.command.BodyFault.{BodyFault}
use Rattle.batch_outcome.specs.declared.outcome.Outcome.{Outcome}
use Rattle.batch_outcome.specs.Published.{outcome_of}
use Rattle.wire_records.specs.Limits.{limits_of}
use Rattle.market_rules.specs.Market.{Market}
use Rattle.market_rules.specs.Step.{FirstRefusal, after_batch}
use Rattle.market_rules.specs.Settling.{MaySettle}
use Rattle.batch_audit.specs.Legal.{IsLegalPair, IsIllegalPair}
use Rattle.batch_audit.specs.declared.audit.Legality.{Legality}
use Rattle.batch_audit.specs.declared.audit.Legality.TheVariants.{Legal, Illegal}
use Rattle.batch_audit.specs.declared.change.Change.{Change}
use Rattle.batch_audit.specs.declared.change.Change.TheVariants.{Nothing, Refused, Command, Batch}

-- a valid entry makes the new market, and an invalid one leaves the old
abbrev pub IsJudged : Legality → Market → Record × Record → Market → Type 0
IsJudged Legal old pair new = IsLegalPair old pair new
IsJudged Illegal old pair new = IsIllegalPair old pair × (new ≡ old)

-- the record is read as this command, which holds no batch, and which no refusal stops
pub record IsAcceptedPlain (old : Market) (read : Result commands.Command BodyFault) (command : commands.Command) : Type 0 where
  pub is_read : read ≡ Ok command
  pub no_batch : (budget : ℕ) → ¬ (command ≡ RunBatch budget)
  pub accepted : FirstRefusal old command None

-- the record asks for a batch, the market may settle this outcome, and settling it makes the new market
pub record IsSettling (old : Market) (read : Result commands.Command BodyFault) (outcome : Outcome) (new : Market) : Type 0 where
  pub asks : (budget : ℕ) × (read ≡ Ok (RunBatch budget))
  pub right : MaySettle old outcome
  pub more : old.batches < (limits_of old.version).batches
  pub made : new ≡ after_batch old (outcome_of old.orders outcome)

-- a change of the old market that makes the new one, by what a record is read as: none, where that is no command or a command is refused,
-- that of the command, or that of a batch
abbrev pub Changes : Market → Result commands.Command BodyFault → Change → Market → Type 0
Changes old read Nothing new = ((why : BodyFault) × (read ≡ Err why)) × (new ≡ old)
Changes old read (Refused seen) new = (read ≡ Ok (command_of seen)) × (new ≡ old)
Changes old read (Command seen) new = IsAcceptedPlain old read (command_of seen)
Changes old read (Batch outcome) new = IsSettling old read outcome new

-- the entry is valid, and this is what it changes
pub record IsChangeOf (old : Market) (pair : Record × Record) (change : Change) : Type 0 where
  pub new : Market
  pub legal : IsLegalPair old pair new
  pub changes : Changes old legal.step.read change new

-- the judgement of an entry before its step: what a valid one changes, or that it is invalid
abbrev pub IsWeighed : Market → Record × Record → Option Change → Type 0
IsWeighed old pair (Some change) = IsChangeOf old pair change
IsWeighed old pair None = IsIllegalPair old pair
