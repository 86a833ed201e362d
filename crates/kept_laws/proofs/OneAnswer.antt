-- Entries by the canonical rule: there is one answer to each record, so the first records have the first entries.
use Rattle.std.proofs.Common.{◌≡◌, List, [], ◌∷◌, ◌++◌, refl, sym, ap, ◌∙◌}
use Rattle.wire_records.specs.Records.{Record}
use Rattle.wire_records.specs.Commands.{Answer, Pair}
use Rattle.wire_records.specs.Versions.{IsReadAs}
use Rattle.wire_records.proofs.Readings.{reading_unique}
use Rattle.flow_orders.specs.Outcomes.{Outcome}
use Rattle.canonical_rule.specs.Canonical.{IsCanonicalOutcome}
use Rattle.market_rules.specs.Market.{Market}
use Rattle.market_rules.specs.Journal.{Follows}
use Rattle.canonical_journals.proofs.OneCanonicalJournal.{own_step}
use Rattle.journal_keeping.specs.Dialogs.{asked_of}
use Rattle.kept_laws.proofs.Promised.{Pairs}

pub same_pair : (p q : Pair Record Outcome) → p.asked ≡ q.asked → p.answer ≡ q.answer → p ≡ q
same_pair p q asked answer =
    let made : Record → Answer Outcome → Pair Record Outcome = λ a b. record { asked = a; answer = b } in
    ap (λ a. made a p.answer) asked ∙ ap (λ b. made q.asked b) answer

heads : (a b : Record) (x y : List Record) → a ∷ x ≡ b ∷ y → (a ≡ b) × (x ≡ y)
heads a b x y e = (cc, cc)

-- the entries of the first records are the first entries
pub first_entries : (old : Market) (p q : Pairs) (m n : Market) (more : List Record) → asked_of q ≡ asked_of p ++ more → Follows IsReadAs IsCanonicalOutcome old p m → Follows IsReadAs IsCanonicalOutcome old q n → (rest : Pairs) × (q ≡ p ++ rest)
first_entries old [] q m n more e a b = (q, refl)
first_entries old (x ∷ p) [] m n more e a b = absurd cc
first_entries old (x ∷ p) (y ∷ q) m n more e a b =
    let asked = heads y.asked x.asked (asked_of q) (asked_of p ++ more) e in
    let step = own_step IsReadAs reading_unique old x.asked x.answer y.answer a.0 b.0 a.1 (rw (← asked.0) b.1) in
    let rest = first_entries a.0 p q m n more asked.1 a.2 (rw step.1 b.2) in
    (rest.0, ap (λ (z : Pair Record Outcome). z ∷ q) (sym (same_pair x y (sym asked.0) step.0)) ∙ ap (λ (l : Pairs). x ∷ l) rest.1)

-- records have one list of entries
pub one_entries : (old : Market) (p q : Pairs) (m n : Market) → asked_of p ≡ asked_of q → Follows IsReadAs IsCanonicalOutcome old p m → Follows IsReadAs IsCanonicalOutcome old q n → p ≡ q
one_entries old [] [] m n e a b = refl
one_entries old [] (y ∷ q) m n e a b = absurd cc
one_entries old (x ∷ p) [] m n e a b = absurd cc
one_entries old (x ∷ p) (y ∷ q) m n e a b =
    let asked = heads x.asked y.asked (asked_of p) (asked_of q) e in
    let step = own_step IsReadAs reading_unique old x.asked x.answer y.answer a.0 b.0 a.1 (rw asked.0 b.1) in
    let rest = one_entries a.0 p q m n asked.1 a.2 (rw step.1 b.2) in
    rw (same_pair x y asked.0 step.0, rest) refl
