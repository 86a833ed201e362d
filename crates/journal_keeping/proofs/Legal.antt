-- Prefixes of valid journals, and what images represent.
use Rattle.std.proofs.Common.{◌≡◌, ◌≤◌, ℕ, zero, suc, List, [], ◌∷◌, ◌++◌, take, refl, sym, ap, subst, arith}
use Rattle.std.proofs.lemmas.List.{take-append-le}
use Rattle.std.proofs.lemmas.List.Elements.{All-take}
use Rattle.wire_records.specs.Records.{Record}
use Rattle.wire_records.specs.Commands.{Pair}
use Rattle.wire_records.specs.Versions.{IsReadAs}
use Rattle.wire_records.proofs.Readings.{read_own}
use Rattle.flow_orders.specs.Outcomes.{Outcome, IsAdmissibleOutcome}
use Rattle.canonical_rule.specs.Canonical.{IsCanonicalOutcome}
use Rattle.journal_records.specs.Pairs.{IsPair}
use Rattle.market_rules.specs.Market.{Market, IsConsistent}
use Rattle.market_history.specs.Histories.{Start, Empty, Kept, market_of, CanStart}
use Rattle.market_rules.specs.Journal.{Follows}
use Rattle.market_rules.proofs.LawProofs.{steps_keep_consistency, journals_stay_consistent}
use Rattle.canonical_journals.proofs.CanonicalIsLegal.{canonical_follows_are_admissible}
use Rattle.journal_keeping.specs.Keeping.{IsKeptJournal, StandsForJournal, KeepsFirst}
use Rattle.journal_keeping.specs.Laws.{PrefixesAreLegal, MorePairsStay, FirstsAreLegal}

abbrev Leads : Market → List (Pair Record Outcome) → Market → Type 0
Leads = Follows IsReadAs IsAdmissibleOutcome

prefix_leads : (old : Market) (pairs : List (Pair Record Outcome)) (new : Market) (count : ℕ) → Leads old pairs new → (mid : Market) × Leads old (take count pairs) mid
prefix_leads old pairs new zero leads = (old, refl)
prefix_leads old [] new (suc count) leads = (old, refl)
prefix_leads old (pair ∷ pairs) new (suc count) leads =
    let rest = prefix_leads leads.0 pairs new count leads.2 in
    (rest.0, (leads.0, leads.1, rest.1))

pub prefixes_are_legal : PrefixesAreLegal
prefixes_are_legal begin pairs market count is =
    let prefix = prefix_leads (market_of begin) pairs market count is.steps in
    (prefix.0, record { starts = is.starts; each = All-take IsPair count pairs is.each; steps = prefix.1 })

pub more_pairs_stay : MorePairsStay
more_pairs_stay begin old new more least most later image fits grows keeps = (
  keeps.0,
  keeps.1,
  omega (arith, keeps.2, grows),
  subst (λ (l : List (Pair Record Outcome)). StandsForJournal begin (old ++ l) image) (sym (take-append-le keeps.0 new more (omega (arith, keeps.2, fits)))) keeps.3,
)

-- as many of the new entries are within other bounds
pub first_wider : (begin : Start) (old new : List (Pair Record Outcome)) (least most low high : ℕ) (image : List ℕ) → low ≤ least → most ≤ high → KeepsFirst begin old new least most image → KeepsFirst begin old new low high image
first_wider begin old new least most low high image below above keeps = (keeps.0, omega (arith, keeps.1, below), omega (arith, keeps.2, above), keeps.3)

-- a prefix of the second list after the first is a prefix of both
prefix_of_both : (old new : List (Pair Record Outcome)) (count : ℕ) → (n : ℕ) × (old ++ take count new ≡ take n (old ++ new))
prefix_of_both [] new count = (count, refl)
prefix_of_both (pair ∷ old) new count =
    let rest = prefix_of_both old new count in
    (suc rest.0, ap (λ (l : List (Pair Record Outcome)). pair ∷ l) rest.1)

pub firsts_are_legal : FirstsAreLegal
firsts_are_legal begin old new before after least most image on keeps =
    let both = prefix_of_both old new keeps.0 in
    let prefix = prefixes_are_legal begin (old ++ new) after both.0 on.journal in
    (begin, old ++ take keeps.0 new, prefix.0, subst (λ (l : List (Pair Record Outcome)). IsKeptJournal begin l prefix.0) (sym both.1) prefix.1, keeps.3)

-- a journal begins in a consistent market
starts_consistent : (begin : Start) → CanStart begin → IsConsistent (market_of begin)
starts_consistent (Empty version) starts = steps_keep_consistency.0 version
starts_consistent (Kept market) starts = starts.consistent

-- canonical steps from the market of a valid journal are admissible ones
pub canonical_are_admissible : (begin : Start) (pairs : List (Pair Record Outcome)) (m : Market) (more : List (Pair Record Outcome)) (n : Market) → IsKeptJournal begin pairs m → Follows IsReadAs IsCanonicalOutcome m more n → Leads m more n
canonical_are_admissible begin pairs m more n legal steps =
    canonical_follows_are_admissible IsReadAs read_own m more n (journals_stay_consistent (market_of begin) pairs m (starts_consistent begin legal.starts) legal.steps) steps
