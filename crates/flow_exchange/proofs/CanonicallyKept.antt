-- The entries that the program writes keep the promises of the exchange.
use Rattle.std.proofs.Common.{ℕ, List, take, Option, Some, None}
use Rattle.wire_records.specs.Records.{Record}
use Rattle.wire_records.specs.Commands.{Pair}
use Rattle.wire_records.specs.Versions.{IsReadAs}
use Rattle.wire_records.proofs.Readings.{read_own}
use Rattle.flow_orders.specs.Outcomes.{Outcome}
use Rattle.canonical_rule.specs.Canonical.{IsCanonicalOutcome}
use Rattle.market_rules.specs.Market.{Market, IsConsistent, empty_market}
use Rattle.market_rules.specs.Journal.{Follows}
use Rattle.market_rules.proofs.Consistency.{consistent-empty}
use Rattle.market_rules.proofs.LawProofs.{journals_hold_deposits, journals_stay_consistent}
use Rattle.market_rules.proofs.Promised.{legal_journal_keeps_promises}
use Rattle.canonical_journals.proofs.CanonicalIsLegal.{canonical_follows_are_admissible}
use Rattle.canonical_journals.proofs.OwnPromises.{canonical_journal_clears_near}
use Rattle.wire_records.specs.declared.version.Version.TheVariants.{One}
use Rattle.session_resume.specs.declared.first.Origin.{Origin}
use Rattle.session_resume.specs.declared.first.Origin.TheVariants.{Journal, Checkpoint}
use Rattle.session_resume.specs.Firsts.{Whole, IsFirst}
use Rattle.flow_exchange.specs.Promising.{AreCanonicallyKept, KeepsRuns, KeepsResumed, KeepsSample}

pub are_own_kept : (old new : Market) (pairs : List (Pair Record Outcome)) → IsConsistent old → Follows IsReadAs IsCanonicalOutcome old pairs new → AreCanonicallyKept old pairs new
are_own_kept old new pairs consistent steps =
    let legal = canonical_follows_are_admissible IsReadAs read_own old pairs new consistent steps in
    record {
      deposits = journals_hold_deposits old pairs new consistent legal;
      keeps = legal_journal_keeps_promises old pairs new consistent legal;
      near = canonical_journal_clears_near old pairs new consistent steps;
    }

-- the market that a source begins with is consistent
pub consistent_first : (bytes : List ℕ) (kind : Origin) (market : Market) (place : ℕ) (rest : List ℕ) → IsFirst bytes (Whole kind market place rest) → IsConsistent market
consistent_first bytes Journal market place rest first = (journals_stay_consistent (empty_market first.version) first.pairs market (consistent-empty first.version) first.legal.steps)
consistent_first bytes Checkpoint market place rest first = first.is_one.consistent

pub keeps_runs : (limit : ℕ) (told : Option (List ℕ)) → KeepsRuns limit told
keeps_runs limit None = tt
keeps_runs limit (Some bytes) = λ version records market text starts writes. are_own_kept (empty_market version) market writes.pairs (consistent-empty version) writes.journal_of.steps

pub keeps_resumed : (limit : ℕ) (told : Option (List ℕ)) → KeepsResumed limit told
keeps_resumed limit None = tt
keeps_resumed limit (Some bytes) = λ origin old place rest records new text first writes. are_own_kept old new writes.pairs (consistent_first (take limit bytes) origin old place rest first) writes.answered.steps

pub keeps_sample : (number orders : ℕ) → KeepsSample number orders
keeps_sample number orders line sum = are_own_kept (empty_market One) sum.market sum.writes.pairs (consistent-empty One) sum.writes.journal_of.steps
