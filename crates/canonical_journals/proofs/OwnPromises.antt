-- What steps by the canonical rule promise besides.
use Rattle.std.proofs.Common.{◌≡◌, ℕ, List, ◌∷◌, subst}
use Rattle.wire_records.specs.Records.{Record}
use Rattle.wire_records.specs.Commands.{Batch, Pair}
use Rattle.wire_records.specs.Versions.{IsReadAs}
use Rattle.wire_records.proofs.Readings.{reading_unique, read_own}
use Rattle.flow_orders.specs.Outcomes.{Outcome, IsAdmissibleOutcome}
use Rattle.canonical_rule.specs.Canonical.{IsCanonicalOutcome}
use Rattle.canonical_rule.proofs.CanonicalLaws.{one_asset_books_clear}
use Rattle.market_rules.specs.Market.{Market, IsConsistent, search_of, start_prices}
use Rattle.market_rules.specs.Journal.{Step, Follows}
use Rattle.market_rules.specs.Promises.{HoldsBatch, ClearNear}
use Rattle.market_rules.proofs.OneJournal.{follows-parts, journal_market}
use Rattle.canonical_journals.proofs.CanonicalIsLegal.{canonical_follows_are_admissible}
use Rattle.market_rules.proofs.Starts.{start_within}
use Rattle.market_rules.proofs.Versions.{some_parts}
use Rattle.market_rules.proofs.LawProofs.{batch_of}
use Rattle.market_rules.proofs.Promised.{batch_served, consistent_before}

module _ (start : Market) (pairs : List (Pair Record Outcome)) (market : Market) (begins : IsConsistent start) (steps : Follows IsReadAs IsCanonicalOutcome start pairs market) where
  -- the batch's outcome is the canonical one
  own_step : (old : Market) (outcome : Outcome) (new : Market) → HoldsBatch IsReadAs start pairs old outcome new → (budget : ℕ) × IsCanonicalOutcome (search_of old.version) old.orders (start_prices old) budget outcome
  own_step old outcome new batch =
      let pair : Pair Record Outcome = record { asked = batch.asked; answer = Batch batch.number outcome } in
      let parts = follows-parts IsReadAs reading_unique IsCanonicalOutcome start market batch.before (pair ∷ batch.after) (subst (λ ps. Follows IsReadAs IsCanonicalOutcome start ps market) batch.stands steps) in
      let same : parts.0 ≡ old =
      journal_market IsReadAs reading_unique IsAdmissibleOutcome start batch.before parts.0 old (canonical_follows_are_admissible IsReadAs read_own start batch.before parts.0 begins parts.1) batch.led in
      let next = parts.2.0 in
      let step : Step IsReadAs IsCanonicalOutcome old batch.asked (Batch batch.number outcome) next = subst (λ m. Step IsReadAs IsCanonicalOutcome m batch.asked (Batch batch.number outcome) next) same parts.2.1 in
      let served = batch_served IsCanonicalOutcome old step.read batch.number outcome next step.served in
      let held = batch_of IsCanonicalOutcome old served.0 batch.number outcome next served.1 in
      (held.budget, held.ruled)

  pub canonical_journal_clears_near : ClearNear IsReadAs start pairs
  canonical_journal_clears_near old new outcome batch single =
      let own = own_step old outcome new batch in
      let consistent = consistent_before begins old outcome new batch in
      one_asset_books_clear (search_of old.version) (some_parts old.version) old.orders (start_prices old) own.0 outcome (λ k d inside. (consistent.live k d inside).order) single (start_within old) own.1
