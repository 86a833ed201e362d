-- Texts that were appended piece by piece.
use Rattle.std.proofs.Common.{◌≡◌, ◌+◌, ◌<◌, ◌≤◌, ℕ, get_or, List, [], ◌∷◌, ◌++◌, length, take, Result, Ok, Err, OnOk, arith, sym, ap, ◌∙◌}
use Rattle.out_of_memory.specs.declared.Memory.{Memory}
use Rattle.std.specs.List.{flat_map, range_with_len}
use Rattle.std.proofs.lemmas.List.{append_assoc, flat_map_more, take_more, take_all, map-id}
use Rattle.std.proofs.lemmas.List.FromFn.{map-range_with_len_more}

-- one piece, followed by another
pub joined : (old a b one two : List ℕ) → one ≡ old ++ a → two ≡ one ++ b → two ≡ old ++ (a ++ b)
joined old a b one two first second = second ∙ ap (λ x. x ++ b) first ∙ append_assoc old a b

-- P implies Q, so if P holds on success, Q does
pub on_ok : {P Q : Type 0} → (result : Result (Unit {0}) Memory) → (P → Q) → OnOk result P → OnOk result Q
on_ok (Ok x) follows holds = follows holds
on_ok (Err e) follows holds = tt

-- the pieces of one more element of a list
pub one_more : {X : Type 0} (f : X → List ℕ) (old : List ℕ) (xs : List X) (k : ℕ) (d : X) (one two : List ℕ) → k < length xs
    → one ≡ old ++ flat_map f (take k xs) → two ≡ one ++ f (get_or xs k d) → two ≡ old ++ flat_map f (take (k + 1) xs)
one_more f old xs k d one two inside first second =
    second ∙ ap (λ x. x ++ f (get_or xs k d)) first ∙ flat_map_more f old (take k xs) (get_or xs k d) ∙ ap (λ ys. old ++ flat_map f ys) (sym (take_more xs k d inside))

-- n numbers and one more
range_more : (n : ℕ) → range_with_len 0 (n + 1) ≡ range_with_len 0 n ++ n ∷ []
range_more n =
    sym (map-id (range_with_len 0 (n + 1))) ∙ map-range_with_len_more (λ x. x) 0 n n (omega arith) ∙ ap (λ ys. ys ++ n ∷ []) (map-id (range_with_len 0 n))

-- the pieces of the numbers below one, and of one more
pub one_more_number : (f : ℕ → List ℕ) (old : List ℕ) (k : ℕ) (one two : List ℕ)
    → one ≡ old ++ flat_map f (range_with_len 0 k) → two ≡ one ++ f k → two ≡ old ++ flat_map f (range_with_len 0 (k + 1))
one_more_number f old k one two first second =
    second ∙ ap (λ x. x ++ f k) first ∙ flat_map_more f old (range_with_len 0 k) k ∙ ap (λ ys. old ++ flat_map f ys) (sym (range_more k))

-- the pieces of all elements were appended
pub all_done : {X : Type 0} (f : X → List ℕ) (old : List ℕ) (xs : List X) (k : ℕ) (one : List ℕ) → length xs ≤ k
    → one ≡ old ++ flat_map f (take k xs) → one ≡ old ++ flat_map f xs
all_done f old xs k one past is = is ∙ ap (λ ys. old ++ flat_map f ys) (take_all k xs past)
