-- Sums of integers over lists.
use Rattle.std.proofs.Common.{◌≡◌, ℕ, zero, suc, ◌+◌, ◌*◌, ◌<◌, ◌≤◌, ℤ, pos, ◌+ℤ◌, ◌-ℤ◌, ◌*ℤ◌, ◌≤ℤ◌, Bool, false, List, [], ◌∷◌, ◌++◌, length, map, take, get_or, set, ap, ◌∙◌, refl, ⊎_elim, cond, eqb, ◌≢◌, arith}
use Rattle.std.specs.Prelude.{unsigned_abs, All, slice_index_or}
use Rattle.std.specs.List.{range_with_len, filter, AllByRecursion}
use Rattle.std.proofs.lemmas.Int.{ints}
use Rattle.std.proofs.lemmas.List.{take_more}
use Rattle.std.proofs.lemmas.Bool.{ne_eqb, cases_Bool}
use Rattle.std.proofs.lemmas.Bool.Decides.{eqb_tells}
use Rattle.list_sums.specs.Sums.{int_sum_by}
use Rattle.list_sums.proofs.Products.{*ℤ-add, unsigned_abs-add}

module _ {X : Type 0} (f : X → ℤ) where
  pub int_sum_by-append : (xs ys : List X) → int_sum_by f (xs ++ ys) ≡ int_sum_by f xs +ℤ int_sum_by f ys
  int_sum_by-append [] ys = omega (arith, ints)
  int_sum_by-append (x ∷ xs) ys = omega (arith, ints, int_sum_by-append xs ys)

  -- a member is pushed
  pub int_sum_by-push : (xs : List X) (y : X) → int_sum_by f (xs ++ y ∷ []) ≡ int_sum_by f xs +ℤ f y
  int_sum_by-push [] y = omega (arith, ints)
  int_sum_by-push (x ∷ xs) y = omega (arith, ints, int_sum_by-push xs y)

  -- the prefix that is summed grows by one member
  pub int_sum_by_more : (xs : List X) (i : ℕ) (d : X) → i < length xs → int_sum_by f (take (i + 1) xs) ≡ int_sum_by f (take i xs) +ℤ f (get_or xs i d)
  int_sum_by_more xs i d within =
      rw (take_more xs i d within) (omega (arith, ints, int_sum_by-append (take i xs) (get_or xs i d ∷ [])))

  -- one member is replaced, and its summand changes by the amount
  pub int_sum_by-set : (xs : List X) (i : ℕ) (y d : X) (amount : ℤ) → i < length xs → f y ≡ f (get_or xs i d) +ℤ amount → int_sum_by f (set xs i y) ≡ int_sum_by f xs +ℤ amount
  int_sum_by-set [] i y d amount within e = absurd (omega arith)
  int_sum_by-set (x ∷ xs) zero y d amount within e = omega (arith, ints, e)
  int_sum_by-set (x ∷ xs) (suc i) y d amount within e = omega (arith, ints, int_sum_by-set xs i y d amount (omega arith) e)

  -- one member is replaced, and its summand stays as it is
  pub int_sum_by-set_same : (xs : List X) (i : ℕ) (y d : X) → i < length xs → f y ≡ f (get_or xs i d) → int_sum_by f (set xs i y) ≡ int_sum_by f xs
  int_sum_by-set_same xs i y d within e = omega (arith, ints, int_sum_by-set xs i y d (pos 0) within (omega (arith, ints, e)))

  -- a map that keeps each summand keeps the sum
  pub int_sum_by-map_same : (g : X → X) → ((x : X) → f (g x) ≡ f x) → (xs : List X) → int_sum_by f (map g xs) ≡ int_sum_by f xs
  int_sum_by-map_same g same [] = refl
  int_sum_by-map_same g same (x ∷ xs) = omega (arith, ints, same x, int_sum_by-map_same g same xs)

  -- a filter that drops only zeros keeps the sum
  pub int_sum_by-filter : (p : X → Bool) (xs : List X) → ((x : X) → p x ≡ false → f x ≡ pos 0) → int_sum_by f (filter p xs) ≡ int_sum_by f xs
  int_sum_by-filter p [] drops = refl
  int_sum_by-filter p (x ∷ xs) drops =
      ⊎_elim
      (λ kept. rw kept (omega (arith, ints, int_sum_by-filter p xs drops)))
      (λ dropped. rw dropped (omega (arith, ints, int_sum_by-filter p xs drops, drops x dropped)))
      (cases_Bool (p x))

  -- a sum over a list is a sum over its places, counted from a
  pub int_sum_by-places : (g : ℕ → ℤ) (a : ℕ) (xs : List X) → ((i : ℕ) (d : X) → i < length xs → f (slice_index_or xs i d) ≡ g (a + i)) → int_sum_by f xs ≡ int_sum_by g (range_with_len a (length xs))
  int_sum_by-places g a [] same = refl
  int_sum_by-places g a (x ∷ xs) same =
      let here : f x ≡ g (a + 0) = same 0 x (omega arith) in
      let at : a + 0 ≡ a = omega arith in
      let first : f x ≡ g a = here ∙ ap g at in
      let rest = int_sum_by-places g (a + 1) xs (λ i d inside. let next : a + suc i ≡ a + 1 + i = omega arith in same (suc i) d (omega (arith, inside)) ∙ ap g next) in
      omega (arith, ints, first, rest)

  -- a sum without a negative summand isn't negative
  pub int_sum_by-positive : (xs : List X) → AllByRecursion (λ x. pos 0 ≤ℤ f x) xs → pos 0 ≤ℤ int_sum_by f xs
  int_sum_by-positive [] all = omega (arith, ints)
  int_sum_by-positive (x ∷ xs) all = omega (arith, ints, all.0, int_sum_by-positive xs all.1)

  pub le-int_sum_by : (xs : List X) (i : ℕ) (d : X) → AllByRecursion (λ x. pos 0 ≤ℤ f x) xs → i < length xs → f (get_or xs i d) ≤ℤ int_sum_by f xs
  le-int_sum_by [] i d all within = absurd (omega arith)
  le-int_sum_by (x ∷ xs) zero d all within = omega (arith, ints, int_sum_by-positive xs all.1)
  le-int_sum_by (x ∷ xs) (suc i) d all within = omega (arith, ints, all.0, le-int_sum_by xs i d all.1 (omega arith))

  -- a sum whose summands are all 0
  pub int_sum_by-zeros : (xs : List X) → All (λ x. f x ≡ pos 0) xs → int_sum_by f xs ≡ pos 0
  int_sum_by-zeros [] h = refl
  int_sum_by-zeros (x ∷ xs) h =
      let head : f x ≡ pos 0 = h 0 x (omega arith) in
      omega (arith, ints, head, int_sum_by-zeros xs (λ k d inside. h (suc k) d (omega (arith, inside))))

  -- a sum of summands that are at most m in absolute value
  pub unsigned_abs-int_sum_by : (m : ℕ) (xs : List X) → All (λ x. unsigned_abs (f x) ≤ m) xs → unsigned_abs (int_sum_by f xs) ≤ length xs * m
  unsigned_abs-int_sum_by m [] small = omega arith
  unsigned_abs-int_sum_by m (x ∷ xs) small =
      let head : unsigned_abs (f x) ≤ m = small 0 x (omega arith) in
      let tail : unsigned_abs (int_sum_by f xs) ≤ length xs * m = unsigned_abs-int_sum_by m xs (λ k d h. small (suc k) d (omega (arith, h))) in
      omega (arith, unsigned_abs-add (f x) (int_sum_by f xs))

  -- a scaled sum
  pub int_sum_by-scale : (c : ℤ) (xs : List X) → c *ℤ int_sum_by f xs ≡ int_sum_by (λ x. c *ℤ f x) xs
  int_sum_by-scale c [] = omega (arith, ints)
  int_sum_by-scale c (x ∷ xs) = *ℤ-add c (f x) (int_sum_by f xs) ∙ omega (arith, ints, int_sum_by-scale c xs)

module _ {X : Type 0} (f g : X → ℤ) where
  -- summands that are equal for every value of the type
  pub int_sum_by-same : (xs : List X) → ((x : X) → f x ≡ g x) → int_sum_by f xs ≡ int_sum_by g xs
  int_sum_by-same [] same = refl
  int_sum_by-same (x ∷ xs) same = omega (arith, ints, same x, int_sum_by-same xs same)

  -- summands that are equal for each member of the list
  pub int_sum_by-same_all : (xs : List X) → All (λ x. f x ≡ g x) xs → int_sum_by f xs ≡ int_sum_by g xs
  int_sum_by-same_all [] h = refl
  int_sum_by-same_all (x ∷ xs) h =
      let head : f x ≡ g x = h 0 x (omega arith) in
      omega (arith, ints, head, int_sum_by-same_all xs (λ k d inside. h (suc k) d (omega (arith, inside))))

  -- summands that are in order for each member of the list
  pub int_sum_by-le : (xs : List X) → All (λ x. f x ≤ℤ g x) xs → int_sum_by f xs ≤ℤ int_sum_by g xs
  int_sum_by-le [] h = omega (arith, ints)
  int_sum_by-le (x ∷ xs) h =
      let head : f x ≤ℤ g x = h 0 x (omega arith) in
      omega (arith, ints, head, int_sum_by-le xs (λ k d inside. h (suc k) d (omega (arith, inside))))

  -- a sum of sums
  pub int_sum_by-add : (xs : List X) → int_sum_by (λ x. f x +ℤ g x) xs ≡ int_sum_by f xs +ℤ int_sum_by g xs
  int_sum_by-add [] = refl
  int_sum_by-add (x ∷ xs) = omega (arith, ints, int_sum_by-add xs)

  -- a sum of differences
  pub int_sum_by-sub : (xs : List X) → int_sum_by (λ x. f x -ℤ g x) xs ≡ int_sum_by f xs -ℤ int_sum_by g xs
  int_sum_by-sub [] = omega (arith, ints)
  int_sum_by-sub (x ∷ xs) = omega (arith, ints, int_sum_by-sub xs)

module _ {X Y : Type 0} (f : Y → ℤ) (g : X → Y) where
  -- the sum over a map
  pub int_sum_by-map : (xs : List X) → int_sum_by f (map g xs) ≡ int_sum_by (λ x. f (g x)) xs
  int_sum_by-map [] = refl
  int_sum_by-map (x ∷ xs) = omega (arith, ints, int_sum_by-map xs)

module _ {X Y : Type 0} (f : X → Y → ℤ) where
  -- two sums exchanged
  pub int_sum_by-swap : (xs : List X) (ys : List Y) → int_sum_by (λ x. int_sum_by (λ y. f x y) ys) xs ≡ int_sum_by (λ y. int_sum_by (λ x. f x y) xs) ys
  int_sum_by-swap [] ys = none ys
    where
      none : (ys : List Y) → pos 0 ≡ int_sum_by (λ (y : Y). pos 0) ys
      none [] = refl
      none (y ∷ ys) = omega (arith, ints, none ys)
  int_sum_by-swap (x ∷ xs) ys =
      let rest = int_sum_by-swap xs ys in
      let split = int_sum_by-add (λ y. f x y) (λ y. int_sum_by (λ z. f z y) xs) ys in
      omega (arith, ints, rest, split)

module _ (f g : ℕ → ℤ) where
  -- two sums over a range, equal number by number
  pub int_sum_by-range : (a n : ℕ) → ((k : ℕ) → a ≤ k → k < a + n → f k ≡ g k) → int_sum_by f (range_with_len a n) ≡ int_sum_by g (range_with_len a n)
  int_sum_by-range a zero same = refl
  int_sum_by-range a (suc n) same =
      let first = same a (omega arith) (omega arith) in
      let rest = int_sum_by-range (a + 1) n (λ k least most. same k (omega (arith, least)) (omega (arith, most))) in
      omega (arith, ints, first, rest)

module _ (f : ℕ → ℤ) where
  past : (a n m : ℕ) → m < a → int_sum_by (λ k. cond (eqb m k) (f k) (pos 0)) (range_with_len a n) ≡ pos 0
  past a zero m below = refl
  past a (suc n) m below =
      let other : m ≢ a = omega (arith, below) in
      rw (ne_eqb m a other) (omega (arith, ints, past (a + 1) n m (omega (arith, below))))

  -- only one number of a range counts
  pub int_sum_by-only : (a n m : ℕ) → a ≤ m → m < a + n → int_sum_by (λ k. cond (eqb m k) (f k) (pos 0)) (range_with_len a n) ≡ f m
  int_sum_by-only a zero m from to = absurd (omega (arith, from, to))
  int_sum_by-only a (suc n) m from to =
      ⊎_elim
      (λ here. rw (here.0, ← here.1) (omega (arith, ints, past (m + 1) n m (omega arith))))
      (λ other. rw other.0 (omega (arith, ints, int_sum_by-only (a + 1) n m (omega (arith, from, other.1)) (omega (arith, to)))))
      (eqb_tells m a)
