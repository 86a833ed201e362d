-- Valid entries and valid journals, no matter who wrote them and what prices their batches have.
use Rattle.std.specs.Prelude.{◌≡◌, List, [], ◌∷◌, ◌++◌, map, All}
use Rattle.wire_records.specs.Records.{Record}
use Rattle.wire_records.specs.Commands.{Answer, Pair}
use Rattle.wire_records.specs.Versions.{IsReadAs}
use Rattle.wire_records.specs.declared.version.Version.{Version}
use Rattle.flow_orders.specs.Outcomes.{Outcome, IsAdmissibleOutcome}
use Rattle.journal_records.specs.Replies.{EncodesAnswer}
use Rattle.journal_records.specs.Pairs.{IsPair}
use Rattle.journal_records.specs.Formats.{records_of}
use Rattle.market_rules.specs.Market.{Market, empty_market}
use Rattle.market_rules.specs.Journal.{Step, Follows}

-- An entry is valid: it is a step of the old market that makes the new one. Its second record encodes the answer that
-- the first gets. A batch may have any admissible outcome.
pub record IsLegalPair (old : Market) (pair : Record × Record) (new : Market) : Type 0 where
  pub answer : Answer Outcome
  pub encoded : EncodesAnswer pair.1 answer
  pub step : Step IsReadAs IsAdmissibleOutcome old pair.0 answer new

-- the entry is no step of the market
abbrev pub IsIllegalPair : Market → Record × Record → Type 0
IsIllegalPair old pair = (new : Market) → ¬ IsLegalPair old pair new

-- the entries are a valid journal of a version, and lead from the empty market to this one
pub record IsLegalJournal (version : Version) (pairs : List (Pair Record Outcome)) (market : Market) : Type 0 where
  pub each : All IsPair pairs
  pub steps : Follows IsReadAs IsAdmissibleOutcome (empty_market version) pairs market

-- no entry is left, or the first of those that are left is no step of the market
abbrev pub StopsAt : Market → List (Record × Record) → Type 0
StopsAt market [] = Unit {0}
StopsAt market (bad ∷ more) = IsIllegalPair market bad

-- The entries are, in a version, these valid ones and those after them, of which the first is invalid.
pub record AreJudged (version : Version) (all : List (Record × Record)) (legal : List (Pair Record Outcome)) (following : List (Record × Record)) (market : Market) : Type 0 where
  pub parts : all ≡ map records_of legal ++ following
  pub journal : IsLegalJournal version legal market
  pub stops : StopsAt market following
