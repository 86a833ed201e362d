-- What serving one record appends to a journal.
use Rattle.std.specs.Prelude.{◌≡◌, ◌⊎◌, ◌+◌, ◌*◌, ◌^◌, ◌<◌, ℕ, List, ◌++◌, length}
use Rattle.wire_records.specs.Records.{Record, encoding}
use Rattle.wire_records.specs.Formats.{commands}
use Rattle.wire_records.specs.Commands.{Command, Answer, Plain, Batch, Pair}
use Rattle.wire_records.specs.CommandRecords.{record_of, IsCommand}
use Rattle.wire_records.specs.Versions.{IsReadAs}
use Rattle.journal_records.specs.Pairs.{IsPair, pair_encoding, longest_plain_pair}
use Rattle.flow_orders.specs.Outcomes.{Outcome}
use Rattle.canonical_rule.specs.Canonical.{IsCanonicalOutcome}
use Rattle.market_rules.specs.Market.{Market}
use Rattle.market_rules.specs.Journal.{Step}
use Rattle.market_rules.specs.Allocating.{RecordMayAllocate}
use Rattle.exchange_session.specs.declared.session.Served.{Served}
use Rattle.exchange_session.specs.declared.session.Served.TheVariants as variants

-- A record is answered by one step of the market under the canonical rule, and the text is its entry, which fits its
-- widths while the number of the next order has 64 bits.
pub record AnswersOne (old : Market) (asked : Record) (new : Market) (text : List ℕ) : Type 0 where
  pub answer : Answer Outcome
  pub step : Step IsReadAs IsCanonicalOutcome old asked answer new
  pub fits : new.next_order < 2 ^ 64 → IsPair (record { asked = asked; answer = answer })
  pub encoded : text ≡ pair_encoding (record { asked = asked; answer = answer })

-- what is told of an entry: its plain reply, or that it has a batch, and the place in its bytes at which the reply's record begins
abbrev pub IsToldOf : Pair Record Outcome → Served → Type 0
IsToldOf pair (variants.Plain reply) = pair.answer ≡ Plain reply
IsToldOf pair (variants.Batch place) = (number : ℕ) × (outcome : Outcome) × (pair.answer ≡ Batch number outcome) × (place ≡ length (encoding pair.asked))

-- A command was answered as its record is, and the text is its entry, of which this is told.
pub record ServesCommand (old : Market) (command : Command) (new : Market) (text : List ℕ) (told : Served) : Type 0 where
  pub fits : IsCommand command
  pub answers : AnswersOne old (record_of command) new text
  pub told_of : IsToldOf (record { asked = record_of command; answer = answers.answer }) told

-- a record was answered, and its entry put into an empty buffer
abbrev pub Puts : Market → Record → Market → List ℕ → List ℕ → Type 0
Puts old asked new before text = AnswersOne old asked new text

-- the numbers of orders stay below 2^64 while so many bytes are left: each record has five bytes at least
abbrev pub HasNumbers : Market → ℕ → Type 0
HasNumbers market left = 5 * market.next_order + left < 5 * 2 ^ 64

-- The bytes begin with a complete record, for whose entry a buffer with so much capacity may be too short, or which may allocate.
pub record AllocatesNext (old : Market) (bytes : List ℕ) (room : ℕ) : Type 0 where
  pub asked : Record
  pub rest : List ℕ
  pub lawful : commands.units.IsLawful asked
  pub prefix : bytes ≡ commands.units.encode asked ++ rest
  pub allocates : (room < longest_plain_pair) ⊎ RecordMayAllocate old asked
