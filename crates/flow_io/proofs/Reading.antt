use Rattle.std.proofs.Common.{◌≡◌, ◌≤◌, ◌+◌, ℕ, List, ◌++◌, Option, Some, None, IfSome, length, drop, append_assoc, sym, ap, ◌∙◌, refl}
use Rattle.std.proofs.Math.Seq.{drop-append-add}
use Rattle.flow_io.specs.Streams.{Takes}

-- what a loop over a source has done so far: it took these bytes, at most so many, with no fault
pub record HasRead (before after : Option (List ℕ)) (bytes : List ℕ) (limit faults now : ℕ) : Type 0 where
  pub taken : Takes before after bytes
  pub short : length bytes ≤ limit
  pub quiet : now ≡ faults

-- bytes were taken, and then more
pub Takes-more : (first second third : Option (List ℕ)) (prefix more : List ℕ) → Takes first second prefix → Takes second third more → Takes first third (prefix ++ more)
Takes-more None None None prefix more a b = tt
Takes-more None None (Some z) prefix more a b = absurd b
Takes-more None (Some y) third prefix more a b = absurd a
Takes-more (Some x) None third prefix more a b = absurd a
Takes-more (Some x) (Some y) None prefix more a b = absurd b
Takes-more (Some x) (Some y) (Some z) prefix more a b = rw (a, b, append_assoc) refl

-- as many bytes as the limit were taken, and then one more if there is one
pub drop_limit_and_one : (first second third : Option (List ℕ)) (prefix : List ℕ) (limit : ℕ) → Takes first second prefix → length prefix ≡ limit → IfSome second (λ left. third ≡ Some (drop 1 left)) → IfSome first (λ left. third ≡ Some (drop (limit + 1) left))
drop_limit_and_one None second third prefix limit a len b = tt
drop_limit_and_one (Some x) None third prefix limit a len b = absurd a
drop_limit_and_one (Some x) (Some y) third prefix limit a len b = rw (a, ← len) (b ∙ ap (λ ys. Some ys) (sym (drop-append-add prefix y 1)))
