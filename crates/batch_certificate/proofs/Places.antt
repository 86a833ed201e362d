-- Places at which something holds, one after the other.
use Rattle.std.proofs.Common.{◌≡◌, ℕ, ◌+◌, ◌<◌, ◌≤◌, subst, ⊎_elim, arith}
use Rattle.std.proofs.lemmas.Bool.{cases_lt}
use Rattle.batch_certificate.specs.Verdicts.{HoldsBelow, IsFirstWrong}

pub none_yet : (Holds : ℕ → Type 0) → HoldsBelow Holds 0
none_yet Holds k inside = absurd (omega (arith, inside))

pub one_more : (Holds : ℕ → Type 0) (k : ℕ) → HoldsBelow Holds k → Holds k → HoldsBelow Holds (k + 1)
one_more Holds k before here j inside =
    ⊎_elim
    (λ earlier. before j earlier)
    (λ later. let same : k ≡ j = omega (arith, inside, later) in subst Holds same here)
    (cases_lt j k)

pub all_below : (Holds : ℕ → Type 0) (n k : ℕ) → n ≤ k → HoldsBelow Holds k → HoldsBelow Holds n
all_below Holds n k past before j inside = before j (omega (arith, past, inside))

-- facts that hold at the same places fail first at the same place
pub first_wrong_as : (P Q : ℕ → Type 0) (n k : ℕ) → ((j : ℕ) → j < n → P j → Q j) → ((j : ℕ) → j < n → Q j → P j) → IsFirstWrong P n k → IsFirstWrong Q n k
first_wrong_as P Q n k there back first = record {
  inside = first.inside;
  before = λ j earlier. there j (omega (arith, earlier, first.inside)) (first.before j earlier);
  wrong = λ holds. first.wrong (back k first.inside holds);
}

-- two first places are the same
pub first_is_one : (P : ℕ → Type 0) (n j k : ℕ) → IsFirstWrong P n j → IsFirstWrong P n k → j ≡ k
first_is_one P n j k a b =
    ⊎_elim
    (λ below. absurd (a.wrong (b.before j below)))
    (λ not_below. ⊎_elim (λ above. absurd (b.wrong (a.before k above))) (λ not_above. omega (arith, not_below, not_above)) (cases_lt k j))
    (cases_lt j k)

-- if something holds at all places, it fails first at none
pub no_first : (P : ℕ → Type 0) (n k : ℕ) → HoldsBelow P n → ¬ IsFirstWrong P n k
no_first P n k all first = first.wrong (all k first.inside)
