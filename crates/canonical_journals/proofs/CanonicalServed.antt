-- Every command has a step by the canonical rule.
use Rattle.std.proofs.Common.{ℕ, suc, arith, sym, subst, ◌≡◌, ◌+◌, List, [], ◌∷◌, None, Result, Ok, Err, refl, ap, ⊎_elim}
use Rattle.std.specs.Prelude.{map, All}
use Rattle.flow_orders.specs.Outcomes.{Outcome}
use Rattle.canonical_rule.specs.Canonical.{IsCanonicalOutcome}
use Rattle.wire_records.specs.Commands.{Command, RunBatch, Answer, Plain, Batch, Pair}
use Rattle.wire_records.specs.declared.reply.Reply.TheVariants.{Refused}
use Rattle.market_rules.specs.Market.{Market, search_of, start_prices, empty_market}
use Rattle.market_rules.specs.Step.{FirstRefusal, Serves, after_batch, refusal_of, ServesRead}
use Rattle.wire_records.specs.declared.command.BodyFault.{BodyFault}
use Rattle.wire_records.specs.declared.version.Version.{Version}
use Rattle.market_rules.specs.Journal.{Step, Follows, IsJournal}
use Rattle.canonical_rule.proofs.OneCanonical.{own_is_there}
use Rattle.market_rules.proofs.Exists.{plain_or_due}
use Rattle.market_rules.proofs.LawProofs.{plain_by_any}

-- every command has a step by the canonical rule, from any market
pub served_is_there : (m : Market) (c : Command) → (a : Answer Outcome) × (n : Market) × Serves IsCanonicalOutcome m c a n
served_is_there m c =
    ⊎_elim
    (λ plain. (plain.0, plain.1, plain_by_any IsCanonicalOutcome m c plain.0 plain.1 plain.2))
    (λ due. due_is_there due.0 due.1 due.2)
    (plain_or_due m c)
  where
    due_is_there : (budget : ℕ) → c ≡ RunBatch budget → FirstRefusal m c None → (a : Answer Outcome) × (n : Market) × Serves IsCanonicalOutcome m c a n
    due_is_there budget is first =
        let own = own_is_there (search_of m.version) m.orders (start_prices m) budget in
        let batch : Serves IsCanonicalOutcome m (RunBatch budget) (Batch (m.batches + 1) own.0) (after_batch m own.0) =
        record { first = None; refused = subst (λ d. FirstRefusal m d None) is first; answered = (own.0, own.1, (refl, refl)) } in
        (Batch (m.batches + 1) own.0, after_batch m own.0, subst (λ d. Serves IsCanonicalOutcome m d (Batch (m.batches + 1) own.0) (after_batch m own.0)) (sym is) batch)

-- records, of which those that can be read are each read in some way
module _ {R : Type 0} (Reads : Version → R → Result Command BodyFault → Type 0) (Readable : R → Type 0) (reading : (version : Version) (r : R) → Readable r → (read : Result Command BodyFault) × Reads version r read) where
  read_is_there : (m : Market) (read : Result Command BodyFault) → (a : Answer Outcome) × (n : Market) × ServesRead IsCanonicalOutcome m read a n
  read_is_there m (Ok c) = served_is_there m c
  read_is_there m (Err r) = (Plain (Refused (refusal_of r)), m, (refl, refl))

  pub step_is_there : (m : Market) (asked : R) → Readable asked → (a : Answer Outcome) × (n : Market) × Step Reads IsCanonicalOutcome m asked a n
  step_is_there m asked readable =
      let how = reading m.version asked readable in
      let served = read_is_there m how.0 in
      (served.0, served.1, record { read = how.0; encoded = how.1; served = served.2 })

  follows_are_there : (m : Market) (records : List R) → All Readable records → (pairs : List (Pair R Outcome)) × (n : Market) × (map (λ (pair : Pair R Outcome). pair.asked) pairs ≡ records) × Follows Reads IsCanonicalOutcome m pairs n
  follows_are_there m [] all = ([], m, refl, refl)
  follows_are_there m (asked ∷ records) all =
      let step = step_is_there m asked (all 0 asked (omega arith)) in
      let rest = follows_are_there step.1 records (λ k d inside. all (suc k) d (omega (arith, inside))) in
      (record { asked = asked; answer = step.0 } ∷ rest.0, rest.1, ap (λ l. asked ∷ l) rest.2, (step.1, step.2, rest.3))

  -- records that can be read have a canonical journal
  pub canonical_journal_is_there : (version : Version) (records : List R) → All Readable records → (pairs : List (Pair R Outcome)) × (n : Market) × IsJournal Reads IsCanonicalOutcome version records pairs n
  canonical_journal_is_there version records all =
      let there = follows_are_there (empty_market version) records all in
      (there.0, there.1, record { asked = there.2; steps = there.3 })
