-- What holds at each place below a number.
use Rattle.std.proofs.Common.{◌≡◌, Bool, false, IsTrue, true≢false, ◌↔◌, ◌∙◌, Option, Some, ℕ, ◌+◌, ◌-◌, ◌<◌, subst, sym, ⊎_elim, arith}
use Rattle.std.specs.Prelude.{SomeIff}
use Rattle.std.proofs.lemmas.Bool.{cases_lt}
use Rattle.flow_accounts.specs.Balances.{Balances, IsAccount, account_count}

-- at one place more
pub one_more : (Holds : ℕ → Type 0) (n : ℕ) → ((k : ℕ) → k < n → Holds k) → Holds n → (k : ℕ) → k < n + 1 → Holds k
one_more Holds n below here k inside =
    ⊎_elim
    (λ before. below k before)
    (λ past. let same : n ≡ k = omega arith in subst Holds same here)
    (cases_lt k n)

-- accounts, which are numbered from 1
pub each_account : (b : Balances) (Holds : ℕ → Type 0) → ((k : ℕ) → k < account_count b → Holds (k + 1)) → (account : ℕ) → IsAccount b account → Holds account
each_account b Holds below account there =
    let same : account - 1 + 1 ≡ account = omega (arith, there.0) in
    subst Holds same (below (account - 1) (omega (arith, there.0, there.1)))

-- a test that failed refutes all that it is a part of
pub refuted : {r : Bool} {P Q : Type 0} → IsTrue r ↔ P → r ≡ false → (Q → P) → IsTrue false ↔ Q
refuted is fails gives = (λ f. absurd (true≢false (sym f)), λ q. sym fails ∙ is.1 (gives q))

-- what is read if something is there
pub read_value : {T : Type 0} (o : Option T) (P : Type 0) (v x : T) → SomeIff o P v → o ≡ Some x → x ≡ v
read_value o P v x is some = (subst (λ s. SomeIff s P v) some is).1
