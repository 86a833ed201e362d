-- Laws of valid entries and journals, whatever code there is.
use Rattle.std.specs.Prelude.{◌≡◌, ◌≢◌, ◌↔◌, ◌≤◌, ◌+◌, List}
use Rattle.wire_records.specs.Records.{Record}
use Rattle.wire_records.specs.Commands.{Pair}
use Rattle.wire_records.specs.declared.version.Version.{Version}
use Rattle.flow_orders.specs.Outcomes.{Outcome}
use Rattle.market_rules.specs.Market.{Market, IsConsistent}
use Rattle.batch_audit.specs.Legal.{IsLegalPair, IsIllegalPair, AreJudged}
use Rattle.batch_audit.specs.Findings.{IsFinding}
use Rattle.batch_audit.specs.declared.finding.Finding.{Finding}
use Rattle.batch_audit.specs.declared.finding.Finding.TheVariants.{Legal}

-- a valid entry makes one market
abbrev pub OneMarket : Type 0
OneMarket = (old : Market) (pair : Record × Record) (m n : Market) → IsLegalPair old pair m → IsLegalPair old pair n → m ≡ n

-- a list of entries has one judgement in a version: the valid ones, those that follow them, and the market
abbrev pub OneJudgement : Type 0
OneJudgement = (version : Version) (all : List (Record × Record)) (p q : List (Pair Record Outcome)) (x y : List (Record × Record)) (m n : Market)
    → AreJudged version all p x m → AreJudged version all q y n → (p ≡ q) × (x ≡ y) × (m ≡ n)

-- a valid entry gives out at most one number of an order
abbrev pub PairsNumberOne : Type 0
PairsNumberOne = (old : Market) (pair : Record × Record) (new : Market) → IsLegalPair old pair new → new.next_order ≤ old.next_order + 1

-- there is at most one finding on an entry
abbrev pub OneFinding : Type 0
OneFinding = (m : Market) (pair : Record × Record) (f g : Finding) → IsFinding m pair f → IsFinding m pair g → f ≡ g

-- in a consistent market, it can't be that there is no finding on an entry
abbrev pub EachHasAFinding : Type 0
EachHasAFinding = (m : Market) (pair : Record × Record) → IsConsistent m → ¬ ((f : Finding) → ¬ IsFinding m pair f)

-- the finding is `Legal` exactly if the entry is a step of the market, and an entry with any other finding is none
pub record FindingsTellLegality : Type 0 where
  pub legal : (m : Market) (pair : Record × Record) → IsFinding m pair Legal ↔ ((new : Market) × IsLegalPair m pair new)
  pub illegal : (m : Market) (pair : Record × Record) (f : Finding) → f ≢ Legal → IsFinding m pair f → IsIllegalPair m pair
