-- Records have one canonical journal.
use Rattle.std.proofs.Common.{◌≡◌, List, [], ◌∷◌, Result, Ok, Err, refl, sym, ap, ◌∙◌}
use Rattle.std.specs.Prelude.{map}
use Rattle.flow_orders.specs.Outcomes.{Outcome}
use Rattle.canonical_rule.specs.Canonical.{IsCanonicalOutcome}
use Rattle.wire_records.specs.Commands.{Command, Answer, Pair, RunBatch}
use Rattle.market_rules.specs.Market.{Market, empty_market, search_of, start_prices}
use Rattle.wire_records.specs.declared.command.BodyFault.{BodyFault}
use Rattle.wire_records.specs.declared.version.Version.{Version}
use Rattle.market_rules.specs.Step.{ServesRead}
use Rattle.market_rules.specs.Journal.{Step, Follows, IsJournal}
use Rattle.market_rules.proofs.OneStep.{HasOneOutcome, one_service}
use Rattle.canonical_rule.proofs.OneCanonical.{one_own}

-- every command has one outcome by the canonical rule
pub own_has_one : (m : Market) (c : Command) → HasOneOutcome IsCanonicalOutcome m c
own_has_one m (RunBatch budget) = one_own (search_of m.version) m.orders (start_prices m) budget
own_has_one m command = tt

-- records that are read in one way
module _ {R : Type 0} (Reads : Version → R → Result Command BodyFault → Type 0) (one_reading : (version : Version) (r : R) (a b : Result Command BodyFault) → Reads version r a → Reads version r b → a ≡ b) where
  read_once : (old : Market) (read : Result Command BodyFault) (a b : Answer Outcome) (x y : Market) → ServesRead IsCanonicalOutcome old read a x → ServesRead IsCanonicalOutcome old read b y → (a ≡ b) × (x ≡ y)
  read_once old (Ok c) a b x y first other = one_service IsCanonicalOutcome old c a b x y (own_has_one old c) first other
  read_once old (Err r) a b x y first other = (first.0 ∙ sym other.0, first.1 ∙ sym other.1)

  -- by the canonical rule a record has one answer and leads to one market
  pub own_step : (old : Market) (asked : R) (a b : Answer Outcome) (x y : Market) → Step Reads IsCanonicalOutcome old asked a x → Step Reads IsCanonicalOutcome old asked b y → (a ≡ b) × (x ≡ y)
  own_step old asked a b x y first other =
      read_once old first.read a b x y first.served (rw (one_reading old.version asked first.read other.read first.encoded other.encoded) other.served)

  same_pair : (p q : Pair R Outcome) → p.asked ≡ q.asked → p.answer ≡ q.answer → p ≡ q
  same_pair p q a b =
      let made : R → Answer Outcome → Pair R Outcome = λ asked answer. record { asked = asked; answer = answer } in
      ap (λ asked. made asked p.answer) a ∙ ap (λ answer. made q.asked answer) b

  heads : (a b : R) (x y : List R) → a ∷ x ≡ b ∷ y → (a ≡ b) × (x ≡ y)
  heads a b x y e = (cc, cc)

  one_from : (old : Market) (p q : List (Pair R Outcome)) (m n : Market) → map (λ (x : Pair R Outcome). x.asked) p ≡ map (λ (x : Pair R Outcome). x.asked) q → Follows Reads IsCanonicalOutcome old p m → Follows Reads IsCanonicalOutcome old q n → (p ≡ q) × (m ≡ n)
  one_from old [] [] m n e first other = (refl, first ∙ sym other)
  one_from old [] (y ∷ ys) m n e first other = absurd cc
  one_from old (x ∷ xs) [] m n e first other = absurd cc
  one_from old (x ∷ xs) (y ∷ ys) m n e first other =
      let asked = heads x.asked y.asked (map (λ (x : Pair R Outcome). x.asked) xs) (map (λ (x : Pair R Outcome). x.asked) ys) e in
      let step = own_step old x.asked x.answer y.answer first.0 other.0 first.1 (rw asked.0 other.1) in
      let rest = one_from first.0 xs ys m n asked.1 first.2 (rw step.1 other.2) in
      (rw (same_pair x y asked.0 step.0, rest.0) refl, rest.1)

  -- records have one canonical journal, which leads to one market
  pub one_canonical_journal : (version : Version) (records : List R) (p q : List (Pair R Outcome)) (m n : Market) → IsJournal Reads IsCanonicalOutcome version records p m → IsJournal Reads IsCanonicalOutcome version records q n → (p ≡ q) × (m ≡ n)
  one_canonical_journal version records p q m n first other = one_from (empty_market version) p q m n (first.asked ∙ sym other.asked) first.steps other.steps
