-- Definitions that only private code uses: what serving and auditing one record of a sample makes.
use Rattle.std.specs.Prelude.{◌≡◌, ◌+◌, ◌*◌, ◌^◌, ◌<◌, ℕ, List}
use Rattle.std.specs.List.{sum_by}
use Rattle.wire_records.specs.Records.{Record}
use Rattle.wire_records.specs.Commands.{Answer, Pair}
use Rattle.wire_records.specs.Versions.{IsReadAs}
use Rattle.flow_orders.specs.Outcomes.{Clearing, Outcome, IsAdmissibleOutcome}
use Rattle.journal_records.specs.Pairs.{IsPair, pair_encoding}
use Rattle.market_rules.specs.Market.{Market}
use Rattle.market_rules.specs.Journal.{Step}
use Rattle.journal_replay.specs.Audits.{cleared_by, skipped_by}
use Rattle.exchange_session.specs.Serving.{AnswersOne, HasNumbers}
use Rattle.sample_summary.specs.declared.counting.Counts.{Counts}
use Rattle.sample_summary.specs.declared.sampling.Sampling.{Sampling}
use Rattle.sample_summary.specs.Summary.{units_by}

-- the sum of the rates of a clearing
abbrev pub units_traded : Clearing → ℕ
units_traded c = sum_by (λ f. f.rate) c.fills

-- what an answer counts: batches that cleared and that were skipped, and units
pub record CountsAnswer (answer : Answer Outcome) (counts : Counts) : Type 0 where
  pub cleared : counts.cleared ≡ cleared_by answer
  pub skipped : counts.skipped ≡ skipped_by answer
  pub units : counts.units ≡ units_by answer

-- the new counts are the old ones and those of this answer
pub record AddsAnswer (answer : Answer Outcome) (old new : Counts) : Type 0 where
  pub cleared : new.cleared ≡ old.cleared + cleared_by answer
  pub skipped : new.skipped ≡ old.skipped + skipped_by answer
  pub units : new.units ≡ old.units + units_by answer

-- the most units that each byte of a command record can bring: a record has five bytes at least, and its entry at most
-- 5 * 4,369 rates, each below 2^32
abbrev pub most_units : ℕ
most_units = 4369 * 2 ^ 32

-- the counts stay below 2^64 while so many bytes of records are left
pub record CountsFit (counts : Counts) (left : ℕ) : Type 0 where
  pub cleared : counts.cleared + left < 2 ^ 64
  pub skipped : counts.skipped + left < 2 ^ 64
  pub units : counts.units + left * most_units < 2 ^ 64

-- The bytes are an entry that is a step of a market.
pub record IsWritten (old : Market) (bytes : List ℕ) : Type 0 where
  pub pair : Pair Record Outcome
  pub new : Market
  pub fits : IsPair pair
  pub step : Step IsReadAs IsAdmissibleOutcome old pair.asked pair.answer new
  pub encoded : bytes ≡ pair_encoding pair

-- the market, and the counts
pub record State : Type 0 where
  pub market : Market
  pub counts : Counts

-- the state of a sampling
abbrev pub state_of : Sampling → State
state_of s = record { market = s.session; counts = s.counts }

-- A record is answered by the canonical rule, and its entry is valid and counted.
pub record SamplesOne (old : State) (asked : Record) (new : State) : Type 0 where
  pub text : List ℕ
  pub answers : AnswersOne old.market asked new.market text
  pub fits : IsPair (record { asked = asked; answer = answers.answer })
  pub counts : AddsAnswer answers.answer old.counts new.counts

-- records can be taken while so many bytes are left: audit and session are at one market
pub record IsReadyToSample (s : Sampling) (left : ℕ) : Type 0 where
  pub same : s.audit ≡ s.session
  pub next : HasNumbers s.session left
  pub counts : CountsFit s.counts left
