-- A valid entry makes one market, and a list of entries has one judgement.
use Rattle.std.proofs.Common.{◌≡◌, suc, List, [], ◌∷◌, ◌++◌, map, refl, sym, ap, subst, ◌∙◌, arith}
use Rattle.wire_records.specs.Records.{Record}
use Rattle.wire_records.specs.Commands.{Answer, Pair}
use Rattle.wire_records.specs.Versions.{IsReadAs}
use Rattle.flow_orders.specs.Outcomes.{Outcome, IsAdmissibleOutcome}
use Rattle.journal_records.specs.Pairs.{IsPair}
use Rattle.journal_records.specs.Formats.{records_of}
use Rattle.journal_records.proofs.Encoded.{answer_unique}
use Rattle.market_rules.specs.Market.{Market, empty_market}
use Rattle.market_rules.specs.Journal.{Step, Follows}
use Rattle.market_rules.proofs.LawProofs.{market_is_determined, legal_steps_number_one}
use Rattle.batch_audit.specs.Legal.{IsLegalPair, StopsAt}
use Rattle.batch_audit.specs.Laws.{OneMarket, OneJudgement, PairsNumberOne}
use Rattle.std.specs.Prelude.{All}

-- ---- one market

pub one_market : OneMarket
one_market old pair m n first other =
    let same = answer_unique first.answer other.answer first.encoded.fits other.encoded.fits (sym first.encoded.encoded ∙ other.encoded.encoded) in
    market_is_determined old pair.0 other.answer m n (subst (λ a. Step IsReadAs IsAdmissibleOutcome old pair.0 a m) same first.step) other.step

-- ---- one judgement

-- lists of entries that begin alike
heads : (a b : Record × Record) (x y : List (Record × Record)) → a ∷ x ≡ b ∷ y → (a ≡ b) × (x ≡ y)
heads a b x y e = (cc, cc)

-- what holds of all holds of the first and of the others
first_of : {X : Type 0} (P : X → Type 0) (x : X) (xs : List X) → All P (x ∷ xs) → P x
first_of P x xs all = all 0 x (omega arith)

others_of : {X : Type 0} (P : X → Type 0) (x : X) (xs : List X) → All P (x ∷ xs) → All P xs
others_of P x xs all k d inside = all (suc k) d (omega (arith, inside))

-- a step with an answer that may be in a journal is a valid entry
step_is_legal : (old : Market) (pair : Pair Record Outcome) (new : Market) → IsPair pair → Step IsReadAs IsAdmissibleOutcome old pair.asked pair.answer new → IsLegalPair old (records_of pair) new
step_is_legal old pair new is step = record { answer = pair.answer; encoded = record { fits = is.answer; encoded = refl }; step = step }

-- one entry has these records
pub pair_is : (p q : Pair Record Outcome) → IsPair p → IsPair q → records_of p ≡ records_of q → p ≡ q
pair_is p q p_is q_is same =
    let asked : p.asked ≡ q.asked = ap (λ (r : Record × Record). r.0) same in
    let answer = answer_unique p.answer q.answer p_is.answer q_is.answer (ap (λ (r : Record × Record). r.1) same) in
    let made : Record → Answer Outcome → Pair Record Outcome = λ a b. record { asked = a; answer = b } in
    ap (λ a. made a p.answer) asked ∙ ap (λ b. made q.asked b) answer

-- the valid entries end in one place, whatever market they begin in
pub judged_once : (start : Market) (p q : List (Pair Record Outcome)) (x y : List (Record × Record)) (m n : Market) → map records_of p ++ x ≡ map records_of q ++ y → All IsPair p → All IsPair q
    → Follows IsReadAs IsAdmissibleOutcome start p m → Follows IsReadAs IsAdmissibleOutcome start q n → StopsAt m x → StopsAt n y → (p ≡ q) × (x ≡ y) × (m ≡ n)
judged_once start [] [] x y m n e i j a b s t = (refl, e, a ∙ sym b)
judged_once start [] (w ∷ q) [] y m n e i j a b s t = absurd cc
judged_once start [] (w ∷ q) (v ∷ x) y m n e i j a b s t =
    let first = heads v (records_of w) x (map records_of q ++ y) e in
    absurd (s b.0 (rw (a, first.0) (step_is_legal start w b.0 (first_of IsPair w q j) b.1)))
judged_once start (v ∷ p) [] x [] m n e i j a b s t = absurd cc
judged_once start (v ∷ p) [] x (w ∷ y) m n e i j a b s t =
    let first = heads (records_of v) w (map records_of p ++ x) y e in
    absurd (t a.0 (rw (b, ← first.0) (step_is_legal start v a.0 (first_of IsPair v p i) a.1)))
judged_once start (v ∷ p) (w ∷ q) x y m n e i j a b s t =
    let first = heads (records_of v) (records_of w) (map records_of p ++ x) (map records_of q ++ y) e in
    let same = pair_is v w (first_of IsPair v p i) (first_of IsPair w q j) first.0 in
    let next = one_market start (records_of w) a.0 b.0 (subst (λ r. IsLegalPair start r a.0) first.0 (step_is_legal start v a.0 (first_of IsPair v p i) a.1)) (step_is_legal start w b.0 (first_of IsPair w q j) b.1) in
    let rest = judged_once b.0 p q x y m n first.1 (others_of IsPair v p i) (others_of IsPair w q j) (subst (λ k. Follows IsReadAs IsAdmissibleOutcome k p m) next a.2) b.2 s t in
    (ap (λ z. z ∷ p) same ∙ ap (λ z. w ∷ z) rest.0, rest.1, rest.2)

pub one_judgement : OneJudgement
one_judgement version all p q x y m n first other =
    judged_once (empty_market version) p q x y m n (sym first.parts ∙ other.parts) first.journal.each other.journal.each first.journal.steps other.journal.steps first.stops other.stops

-- ---- numbers of orders

pub pairs_number_one : PairsNumberOne
pairs_number_one old pair new legal = legal_steps_number_one old pair.0 legal.answer new legal.step
