-- A command in two halves: what it is answered, and what it changes.
use Rattle.std.specs.Prelude.{◌≡◌, ◌+◌, ◌<◌, ℕ, List}
use Rattle.wire_records.specs.Commands.{Command}
use Rattle.wire_records.specs.Commands as commands
use Rattle.batch_outcome.specs.Published.{outcome_of}
use Rattle.wire_records.specs.Limits.{limits_of}
use Rattle.market_rules.specs.Market.{Market}
use Rattle.market_rules.specs.Step.{after_batch}
use Rattle.market_rules.specs.Settling.{MaySettle}
use Rattle.exchange_session.specs.Serving.{ServesCommand}
use Rattle.exchange_session.specs.declared.session.Served.TheVariants as variants
use Rattle.exchange_session.specs.declared.answered.HeldBatch.{HeldBatch}
use Rattle.exchange_session.specs.declared.answered.Answered.{Answered}
use Rattle.exchange_session.specs.declared.answered.Answered.TheVariants.{Plain, Batch}

-- the market after this batch is settled
abbrev pub after_held : Market → HeldBatch → Market
after_held old held = after_batch old (outcome_of old.orders held.outcome)

-- A command for a batch was answered. Once the batch is settled, which may be done in this market, the command is served. Its answer is the batch's outcome
-- for the live orders, under the next number.
pub record IsHeld (old : Market) (command : Command) (text : List ℕ) (held : HeldBatch) : Type 0 where
  pub serves : ServesCommand old command (after_held old held) text (variants.Batch held.place)
  pub answer : serves.answers.answer ≡ commands.Batch (old.batches + 1) (outcome_of old.orders held.outcome)
  pub right : MaySettle old held.outcome
  pub more : old.batches < (limits_of old.version).batches

-- a command was answered: it is served, or it holds a batch, and the market is as before
abbrev pub IsAnswered : Market → Command → Market → List ℕ → Answered → Type 0
IsAnswered old command new text (Plain reply) = ServesCommand old command new text (variants.Plain reply)
IsAnswered old command new text (Batch held) = IsHeld old command text held × (new ≡ old)
