-- Counts of faults over several calls.
use Rattle.std.proofs.Common.{ℕ, Option, Some, None, IfSome, Result, Ok, Err, IfOk, IfErr, refl, subst, arith}
use Rattle.flow_io.specs.Faults.{Blames}

-- nothing was called
pub uncalled : (Blamed : Type 0) (n : ℕ) → (¬ Blamed) → Blames Blamed n n
uncalled Blamed n not = record { later = omega arith; rose = λ b. absurd (not b); quiet = λ _. refl }

-- a call that succeeded
pub went_on : (First Blamed : Type 0) (a b : ℕ) → Blames First a b → (¬ First) → (¬ Blamed) → Blames Blamed a b
went_on First Blamed a b first well not = record { later = first.later; rose = λ is. absurd (not is); quiet = λ _. first.quiet well }

-- a call that succeeded, and then another
pub later_call : (First Later : Type 0) (a b c : ℕ) → Blames First a b → (¬ First) → Blames Later b c → Blames Later a c
later_call First Later a b c first well later = subst (λ (n : ℕ). Blames Later n c) (first.quiet well) later

-- the blame under an equivalent condition
pub blames_alike : (First Blamed : Type 0) (a b : ℕ) → (First → Blamed) → (Blamed → First) → Blames First a b → Blames Blamed a b
blames_alike First Blamed a b to from first = record { later = first.later; rose = λ is. first.rose (from is); quiet = λ not. first.quiet (λ is. not (to is)) }

pub on_ok : {T E : Type 0} (r : Result T E) (P Q : T → Type 0) → ((x : T) → P x → Q x) → IfOk r P → IfOk r Q
on_ok (Ok x) P Q f p = f x p
on_ok (Err e) P Q f p = tt

pub on_err : {T E : Type 0} (r : Result T E) (P Q : E → Type 0) → ((e : E) → P e → Q e) → IfErr r P → IfErr r Q
on_err (Ok x) P Q f p = tt
on_err (Err e) P Q f p = f e p

pub if_some : {T : Type 0} (o : Option T) (P Q : T → Type 0) → ((x : T) → P x → Q x) → IfSome o P → IfSome o Q
if_some None P Q f p = tt
if_some (Some x) P Q f p = f x p

pub if_both : {T : Type 0} (o : Option T) (P Q R : T → Type 0) → ((x : T) → P x → Q x → R x) → IfSome o P → IfSome o Q → IfSome o R
if_both None P Q R f p q = tt
if_both (Some x) P Q R f p q = f x p q
