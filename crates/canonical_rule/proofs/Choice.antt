-- The chosen rates are roundings, and have no larger sum of absolute imbalances than the demands rounded down.
use Rattle.std.proofs.Common.{◌≡◌, ℕ, ◌+◌, ◌≤◌, Bool, true, false, ltb, ℤ, ◌+ℤ◌, List, [], ◌∷◌, map, ◌⊎◌, inl, inr, ap, refl, ⊎_elim, arith}
use Rattle.std.specs.Prelude.{unsigned_abs}
use Rattle.std.specs.List.{range_with_len, sum_by, AllZip}
use Rattle.std.proofs.lemmas.Int.{ints}
use Rattle.std.proofs.lemmas.Bool.{cases_Bool, and_parts, ltb-true}
use Rattle.std.proofs.lemmas.List.Sums.{sum_by-cons}
use Rattle.canonical_rule.specs.Choice.{absolute_sum, left_by, raised, is_raised, chosen_from, chosen_rates}
use Rattle.canonical_rule.proofs.Raised.{residuals_after}

sum_by-same : (f g : ℕ → ℕ) (xs : List ℕ) → ((k : ℕ) → f k ≡ g k) → sum_by f xs ≡ sum_by g xs
sum_by-same f g [] same = refl
sum_by-same f g (x ∷ xs) same = omega (arith, sum_by-cons f x xs, sum_by-cons g x xs, same x, sum_by-same f g xs same)

-- equal imbalances have the same sum of absolute values
pub absolute_sum-same : (n : ℕ) (r s : ℕ → ℤ) → ((asset : ℕ) → r asset ≡ s asset) → absolute_sum n r ≡ absolute_sum n s
absolute_sum-same n r s same = sum_by-same (λ k. unsigned_abs (r k)) (λ k. unsigned_abs (s k)) (range_with_len 0 n) (λ k. ap unsigned_abs (same k))

module _ {X : Type 0} (n : ℕ) (weight : X → ℕ → ℤ) (floor : X → ℕ) (is_fraction : X → Bool) where
  -- the choices don't raise the sum of absolute imbalances
  pub choice_never_grows : (r : ℕ → ℤ) (xs : List X) → absolute_sum n (residuals_after n weight floor is_fraction r xs) ≤ absolute_sum n r
  choice_never_grows r [] = omega arith
  choice_never_grows r (x ∷ xs) =
      ⊎_elim
      (λ (up : is_raised n weight floor is_fraction r x ≡ true).
      let smaller = ltb-true (absolute_sum n (raised weight r x)) (absolute_sum n r) (and_parts (is_fraction x) (ltb (absolute_sum n (raised weight r x)) (absolute_sum n r)) up).1 in
      rw up (omega (arith, smaller, choice_never_grows (raised weight r x) xs)))
      (λ (down : is_raised n weight floor is_fraction r x ≡ false). rw down (choice_never_grows r xs))
      (cases_Bool (is_raised n weight floor is_fraction r x))

  -- the imbalances after the choices are those of the chosen rates, if they began as those of the demands rounded down
  pub residuals_follow : (r : ℕ → ℤ) (xs : List X) (asset : ℕ)
      → residuals_after n weight floor is_fraction r xs asset +ℤ left_by weight xs (map floor xs) asset
      ≡ r asset +ℤ left_by weight xs (chosen_from n weight floor is_fraction r xs) asset
  residuals_follow r [] asset = refl
  residuals_follow r (x ∷ xs) asset =
      ⊎_elim
      (λ (up : is_raised n weight floor is_fraction r x ≡ true). rw up (omega (arith, ints, residuals_follow (raised weight r x) xs asset)))
      (λ (down : is_raised n weight floor is_fraction r x ≡ false). rw down (omega (arith, ints, residuals_follow r xs asset)))
      (cases_Bool (is_raised n weight floor is_fraction r x))

  -- the chosen rates have a sum of absolute imbalances of at most that of the demands rounded down
  pub chosen_is_no_worse : (xs : List X)
      → absolute_sum n (left_by weight xs (chosen_rates n weight floor is_fraction xs))
      ≤ absolute_sum n (left_by weight xs (map floor xs))
  chosen_is_no_worse xs =
      let start = left_by weight xs (map floor xs) in
      let chosen = left_by weight xs (chosen_rates n weight floor is_fraction xs) in
      let after = residuals_after n weight floor is_fraction start xs in
      let same = absolute_sum-same n after chosen (λ asset. let follow = residuals_follow start xs asset in omega (arith, ints, follow)) in
      omega (arith, same, choice_never_grows start xs)

  -- each chosen rate is the demand rounded down, or one more if the demand isn't whole
  pub chosen_are_roundings : (r : ℕ → ℤ) (xs : List X) → AllZip (λ x rate. (rate ≡ floor x) ⊎ ((is_fraction x ≡ true) × (rate ≡ floor x + 1))) xs (chosen_from n weight floor is_fraction r xs)
  chosen_are_roundings r [] = tt
  chosen_are_roundings r (x ∷ xs) =
      ⊎_elim
      (λ (up : is_raised n weight floor is_fraction r x ≡ true).
      rw up (inr ((and_parts (is_fraction x) (ltb (absolute_sum n (raised weight r x)) (absolute_sum n r)) up).0, refl), chosen_are_roundings (raised weight r x) xs))
      (λ (down : is_raised n weight floor is_fraction r x ≡ false). rw down (inl refl, chosen_are_roundings r xs))
      (cases_Bool (is_raised n weight floor is_fraction r x))
