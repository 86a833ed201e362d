-- Canonical journals are valid.
use Rattle.std.proofs.Common.{List, [], ◌∷◌, Option, Some, None, Result, Ok, Err}
use Rattle.flow_orders.specs.Outcomes.{Outcome, IsAdmissibleOutcome}
use Rattle.canonical_rule.specs.Canonical.{IsCanonicalOutcome}
use Rattle.wire_records.specs.Commands.{Command, RunBatch, Answer, Pair}
use Rattle.wire_records.specs.declared.reply.Refusal.{Refusal}
use Rattle.market_rules.specs.Market.{Market, IsConsistent, search_of, start_prices, empty_market}
use Rattle.market_rules.specs.Step.{FirstRefusal, Accepts, Serves, ServesRead}
use Rattle.market_rules.proofs.ByFirst.{Answers}
use Rattle.wire_records.specs.declared.command.BodyFault.{BodyFault}
use Rattle.wire_records.specs.declared.version.Version.{Version}
use Rattle.market_rules.specs.Journal.{Step, Follows, IsJournal}
use Rattle.market_rules.proofs.Accepted.{past_unless}
use Rattle.market_rules.proofs.Consistency.{ReadsOwn, consistent_step, consistent-empty}
use Rattle.market_rules.proofs.Starts.{start_within}
use Rattle.market_rules.proofs.Versions.{some_parts}
use Rattle.canonical_rule.proofs.CanonicalIsAdmissible.{canonical_is_admissible}

accepted_right : (m : Market) (c : Command) (a : Answer Outcome) (n : Market) → IsConsistent m → FirstRefusal m c None → Accepts IsCanonicalOutcome m c a n → Accepts IsAdmissibleOutcome m c a n
accepted_right m (RunBatch budget) a n consistent none accepts =
    (accepts.0, canonical_is_admissible (search_of m.version) (some_parts m.version) m.orders (start_prices m) budget accepts.0 (λ k d inside. (consistent.live k d inside).order) (start_within m) (past_unless none).0.1 accepts.1, accepts.2)
accepted_right m command a n consistent none accepts = accepts

-- a canonical step of a consistent market is a step
pub canonical_served_is_admissible : (m : Market) (c : Command) (a : Answer Outcome) (n : Market) → IsConsistent m → Serves IsCanonicalOutcome m c a n → Serves IsAdmissibleOutcome m c a n
canonical_served_is_admissible m c a n consistent serves = record { first = serves.first; refused = serves.refused; answered = by_first serves.first serves.refused serves.answered }
  where
    by_first : (first : Option Refusal) → FirstRefusal m c first → Answers IsCanonicalOutcome m c first a n → Answers IsAdmissibleOutcome m c first a n
    by_first (Some r) refused answered = answered
    by_first None refused answered = accepted_right m c a n consistent refused answered

module _ {R : Type 0} (Reads : Version → R → Result Command BodyFault → Type 0) (own : ReadsOwn Reads) where
  read_right : (m : Market) (read : Result Command BodyFault) (a : Answer Outcome) (n : Market) → IsConsistent m → ServesRead IsCanonicalOutcome m read a n → ServesRead IsAdmissibleOutcome m read a n
  read_right m (Ok c) a n consistent serves = canonical_served_is_admissible m c a n consistent serves
  read_right m (Err r) a n consistent serves = serves

  canonical_step_is_admissible : (m : Market) (asked : R) (a : Answer Outcome) (n : Market) → IsConsistent m → Step Reads IsCanonicalOutcome m asked a n → Step Reads IsAdmissibleOutcome m asked a n
  canonical_step_is_admissible m asked a n consistent step = record { read = step.read; encoded = step.encoded; served = read_right m step.read a n consistent step.served }

  pub canonical_follows_are_admissible : (m : Market) (pairs : List (Pair R Outcome)) (n : Market) → IsConsistent m → Follows Reads IsCanonicalOutcome m pairs n → Follows Reads IsAdmissibleOutcome m pairs n
  canonical_follows_are_admissible m [] n consistent follows = follows
  canonical_follows_are_admissible m (pair ∷ pairs) n consistent follows =
      let step = canonical_step_is_admissible m pair.asked pair.answer follows.0 consistent follows.1 in
      (follows.0, step, canonical_follows_are_admissible follows.0 pairs n (consistent_step Reads own m pair.asked pair.answer follows.0 consistent step) follows.2)

  -- a canonical journal is valid
  pub canonical_journal_is_legal : (version : Version) (records : List R) (pairs : List (Pair R Outcome)) (n : Market) → IsJournal Reads IsCanonicalOutcome version records pairs n → IsJournal Reads IsAdmissibleOutcome version records pairs n
  canonical_journal_is_legal version records pairs n journal = record { asked = journal.asked; steps = canonical_follows_are_admissible (empty_market version) pairs n (consistent-empty version) journal.steps }
