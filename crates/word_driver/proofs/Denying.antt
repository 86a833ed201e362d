-- What isn't refuted, for claims that can't be decided.
use Rattle.std.proofs.Common.{◌⊎◌, inl, inr}
use Rattle.word_driver.specs.Laws.{IsNotDenied}

-- what holds isn't refuted
pub not_denied : {A : Type 0} → A → IsNotDenied A
not_denied there none = none there

-- what follows from a claim that isn't refuted isn't refuted either
pub follows : {A B : Type 0} → (A → IsNotDenied B) → IsNotDenied A → IsNotDenied B
follows then some none = some (λ there. then there none)

-- a claim or its negation isn't refuted
pub one_of : (A : Type 0) → IsNotDenied (A ⊎ (A → ⊥))
one_of A none = none (inr (λ there. none (inl there)))
