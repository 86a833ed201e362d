-- Definitions that only private functions of a session use: what a record asks for, and what of a batch can be written.
use Rattle.std.specs.Prelude.{◌≡◌, ◌<◌, ◌≤◌, ℕ, List, length, None, Ok}
use Rattle.wire_records.specs.Records.{Record}
use Rattle.wire_records.specs.Commands.{RunBatch, Plain}
use Rattle.wire_records.specs.Versions.{IsReadAs}
use Rattle.flow_orders.specs.Orders.{Order}
use Rattle.flow_orders.specs.Outcomes.{most_budget}
use Rattle.flow_orders.specs.Residuals.{most_prices}
use Rattle.batch_outcome.specs.declared.outcome.Outcome.{Outcome}
use Rattle.batch_outcome.specs.declared.outcome.Outcome.TheVariants as parts
use Rattle.canonical_rule.specs.Canonical.{IsCanonicalOutcome}
use Rattle.wire_records.specs.Limits.{limits_of}
use Rattle.market_rules.specs.Market.{Market}
use Rattle.market_rules.specs.Step.{FirstRefusal}
use Rattle.market_rules.specs.Journal.{Step}
use Rattle.exchange_session.specs.declared.session.Asked.{Asked}
use Rattle.exchange_session.specs.declared.session.Asked.TheVariants as asks

-- the record asks for a batch of this market, which no refusal stops
pub record AsksBatch (old : Market) (asked : Record) (budget : ℕ) : Type 0 where
  pub read : IsReadAs old.version asked (Ok (RunBatch budget))
  pub first : FirstRefusal old (RunBatch budget) None
  pub more : old.batches < (limits_of old.version).batches

-- the record got a plain reply by a step of the market, or it asks for a batch, and the market is as before
abbrev pub IsAsked : Market → Record → Market → Asked → Type 0
IsAsked old asked new (asks.Plain reply) = Step IsReadAs IsCanonicalOutcome old asked (Plain reply) new
IsAsked old asked new (asks.Batch budget) = AsksBatch old asked budget × (new ≡ old)

-- an outcome of a batch of these orders that can be written: a clearing with one rate for each order and one imbalance
-- for each of at most 64 prices, or a skip of at most as many moves as a budget may have
abbrev pub IsWritable : List Order → Outcome → Type 0
IsWritable orders (parts.Cleared c) = (length c.rates ≡ length orders) × (length c.residuals ≡ length c.prices) × (length c.prices ≤ most_prices)
IsWritable orders (parts.Skipped s) = length s.trace ≤ most_budget
