-- Filters of lists, and sums over them.
use Rattle.std.proofs.Common.{◌≡◌, ◌⊎◌, inl, inr, ℕ, zero, suc, Bool, true, false, ℤ, ◌+ℤ◌, List, [], ◌∷◌, map, refl, ap, arith}
use Rattle.std.specs.Prelude.{All, ◌==◌}
use Rattle.std.specs.List.{filter}
use Rattle.std.proofs.lemmas.Int.{ints}
use Rattle.std.proofs.lemmas.Bool.{cases_Bool}
use Rattle.list_sums.specs.Sums.{int_sum_by}
use Rattle.flow_orders.specs.Orders.{own_sum}

module _ {X : Type 0} where
  -- the order of two filters doesn't matter
  pub filters_swap : (p q : X → Bool) (xs : List X) → filter p (filter q xs) ≡ filter q (filter p xs)
  filters_swap p q [] = refl
  filters_swap p q (x ∷ xs) = by (filters_swap p q xs) (cases_Bool (p x)) (cases_Bool (q x))
    where
      by : filter p (filter q xs) ≡ filter q (filter p xs) → (p x ≡ true) ⊎ (p x ≡ false) → (q x ≡ true) ⊎ (q x ≡ false) → filter p (filter q (x ∷ xs)) ≡ filter q (filter p (x ∷ xs))
      by rest (inl one) (inl two) = rw two (rw one (rw two (ap (λ l. x ∷ l) rest)))
      by rest (inl one) (inr two) = rw two (rw one (rw two rest))
      by rest (inr one) (inl two) = rw two (rw one rest)
      by rest (inr one) (inr two) = rw two (rw one rest)

  -- after a filter that keeps all that another one keeps, the other one gives what it gives alone
  pub filter_within : (p q : X → Bool) (xs : List X) → All (λ x. p x ≡ true → q x ≡ true) xs → filter p (filter q xs) ≡ filter p xs
  filter_within p q [] all = refl
  filter_within p q (x ∷ xs) all = by (filter_within p q xs (λ k d inside. all (suc k) d (omega (arith, inside)))) (cases_Bool (p x)) (cases_Bool (q x))
    where
      both : filter p (filter q xs) ≡ filter p xs → (p x ≡ true) → (q x ≡ true) → filter p (filter q (x ∷ xs)) ≡ filter p (x ∷ xs)
      both rest one two = rw two (rw one (ap (λ l. x ∷ l) rest))

      by : filter p (filter q xs) ≡ filter p xs → (p x ≡ true) ⊎ (p x ≡ false) → (q x ≡ true) ⊎ (q x ≡ false) → filter p (filter q (x ∷ xs)) ≡ filter p (x ∷ xs)
      by rest (inl one) two = both rest one (all zero x (omega arith) one)
      by rest (inr one) (inl two) = rw two (rw one rest)
      by rest (inr one) (inr two) = rw two (rw one rest)

  -- a filter that keeps none leaves nothing
  pub filter_none : (p : X → Bool) (xs : List X) → All (λ x. p x ≡ false) xs → filter p xs ≡ []
  filter_none p [] none = refl
  filter_none p (x ∷ xs) none =
      let here : p x ≡ false = none zero x (omega arith) in
      rw here (filter_none p xs (λ k d inside. none (suc k) d (omega (arith, inside))))

  -- the sum over an account's own elements is the sum over a filter
  pub own_sum_is : (whose : X → ℕ) (account : ℕ) (f : X → ℤ) (xs : List X) → own_sum whose account f xs ≡ int_sum_by f (filter (λ x. whose x == account) xs)
  own_sum_is whose account f [] = refl
  own_sum_is whose account f (x ∷ xs) = by (own_sum_is whose account f xs) (cases_Bool (whose x == account))
    where
      by : own_sum whose account f xs ≡ int_sum_by f (filter (λ y. whose y == account) xs) → ((whose x == account) ≡ true) ⊎ ((whose x == account) ≡ false) → own_sum whose account f (x ∷ xs) ≡ int_sum_by f (filter (λ y. whose y == account) (x ∷ xs))
      by rest (inl one) = rw one (ap (λ z. f x +ℤ z) rest)
      by rest (inr one) = rw one (omega (arith, ints, rest))

-- a filter of what a function makes
pub filter_map_is : {X Y : Type 0} (f : X → Y) (p : Y → Bool) (xs : List X) → filter p (map f xs) ≡ map f (filter (λ x. p (f x)) xs)
filter_map_is f p [] = refl
filter_map_is f p (x ∷ xs) = by (filter_map_is f p xs) (cases_Bool (p (f x)))
  where
    by : filter p (map f xs) ≡ map f (filter (λ y. p (f y)) xs) → (p (f x) ≡ true) ⊎ (p (f x) ≡ false) → filter p (map f (x ∷ xs)) ≡ map f (filter (λ y. p (f y)) (x ∷ xs))
    by rest (inl one) = rw one (ap (λ l. f x ∷ l) rest)
    by rest (inr one) = rw one rest
