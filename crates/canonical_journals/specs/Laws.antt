-- What holds of steps and journals by the program's canonical rule.
use Rattle.std.specs.Prelude.{◌≡◌, ℕ, ◌+◌, ◌≤◌, ◌↔◌, List, All}
use Rattle.wire_records.specs.Records.{Record, AreBytes}
use Rattle.wire_records.specs.Commands.{Command, RunBatch, Answer, Pair}
use Rattle.wire_records.specs.Versions.{IsReadAs}
use Rattle.wire_records.specs.declared.version.Version.{Version}
use Rattle.flow_orders.specs.Outcomes.{Outcome, IsAdmissibleOutcome}
use Rattle.canonical_rule.specs.Canonical.{IsCanonicalOutcome}
use Rattle.market_rules.specs.Market.{Market, IsConsistent}
use Rattle.market_rules.specs.Step.{Serves}
use Rattle.market_rules.specs.Journal.{Step, Follows, IsJournal}
use Rattle.market_rules.specs.Promises.{ClearNear}

-- a command that is no batch needs no rule: it is served by the canonical rule exactly as if any admissible outcome is accepted
abbrev pub PlainCommandsNeedNoRule : Type 0
PlainCommandsNeedNoRule = (old : Market) (command : Command) (answer : Answer Outcome) (new : Market)
    → ((budget : ℕ) → ¬ (command ≡ RunBatch budget))
    → Serves IsCanonicalOutcome old command answer new ↔ Serves IsAdmissibleOutcome old command answer new

-- records whose bodies are bytes have exactly one canonical journal in each version, which leads to one market
abbrev pub OneCanonicalJournal : Type 0
OneCanonicalJournal = (version : Version) (records : List Record) → All (λ r. AreBytes r.body) records
    → (pairs : List (Pair Record Outcome)) × (m : Market) × IsJournal IsReadAs IsCanonicalOutcome version records pairs m
    × ((other : List (Pair Record Outcome)) (n : Market) → IsJournal IsReadAs IsCanonicalOutcome version records other n → (pairs ≡ other) × (m ≡ n))

-- a canonical journal is valid
abbrev pub CanonicalJournalsAreLegal : Type 0
CanonicalJournalsAreLegal = (version : Version) (records : List Record) (pairs : List (Pair Record Outcome)) (m : Market)
    → IsJournal IsReadAs IsCanonicalOutcome version records pairs m → IsJournal IsReadAs IsAdmissibleOutcome version records pairs m

-- every command has a step by the canonical rule, from any market
abbrev pub EveryCommandIsServed : Type 0
EveryCommandIsServed = (old : Market) (command : Command) → (answer : Answer Outcome) × (new : Market) × Serves IsCanonicalOutcome old command answer new

-- a step by the canonical rule gives out at most one order number
abbrev pub StepsNumberOne : Type 0
StepsNumberOne = (old : Market) (asked : Record) (answer : Answer Outcome) (new : Market)
    → Step IsReadAs IsCanonicalOutcome old asked answer new → new.next_order ≤ old.next_order + 1

-- steps by the canonical rule from a consistent market keep what the rule promises of batches of orders with one leg
abbrev pub CanonicalJournalsClearNear : Type 0
CanonicalJournalsClearNear = (start : Market) (pairs : List (Pair Record Outcome)) (m : Market)
    → IsConsistent start → Follows IsReadAs IsCanonicalOutcome start pairs m → ClearNear IsReadAs start pairs
