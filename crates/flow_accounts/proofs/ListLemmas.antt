-- What a change of a list leaves at each place.
use Rattle.std.proofs.Common.{◌≡◌, ℕ, zero, suc, ℤ, pos, List, [], ◌∷◌, ◌++◌, map, replicate, get_or, set, refl}

-- a function of the element at any place, also past the end
module _ {X Y : Type 0} (g : X → Y) where
  pub get_or-push_same : (xs : List X) (y d : X) (i : ℕ) → g y ≡ g d → g (get_or (xs ++ y ∷ []) i d) ≡ g (get_or xs i d)
  get_or-push_same [] y d zero same = same
  get_or-push_same [] y d (suc i) same = refl
  get_or-push_same (x ∷ xs) y d zero same = refl
  get_or-push_same (x ∷ xs) y d (suc i) same = get_or-push_same xs y d i same

  pub get_or-map_same : (h : X → X) → ((x : X) → g (h x) ≡ g x) → (xs : List X) (d : X) (i : ℕ) → g (get_or (map h xs) i d) ≡ g (get_or xs i d)
  get_or-map_same h same [] d i = refl
  get_or-map_same h same (x ∷ xs) d zero = same x
  get_or-map_same h same (x ∷ xs) d (suc i) = get_or-map_same h same xs d i

  pub get_or-set_kept : (xs : List X) (k : ℕ) (y d : X) (i : ℕ) → g y ≡ g (get_or xs k d) → g (get_or (set xs k y) i d) ≡ g (get_or xs i d)
  get_or-set_kept [] k y d i same = refl
  get_or-set_kept (x ∷ xs) zero y d zero same = same
  get_or-set_kept (x ∷ xs) zero y d (suc i) same = refl
  get_or-set_kept (x ∷ xs) (suc k) y d zero same = refl
  get_or-set_kept (x ∷ xs) (suc k) y d (suc i) same = get_or-set_kept xs k y d i same

-- any number of one value: it is read at each place, and past the end
pub any_of_one : {X : Type 0} (n k : ℕ) (d : X) → get_or (replicate n d) k d ≡ d
any_of_one zero k d = refl
any_of_one (suc n) zero d = refl
any_of_one (suc n) (suc k) d = any_of_one n k d

-- zeros
pub zero_at : (n k : ℕ) → get_or (replicate n (pos 0)) k (pos 0) ≡ pos 0
zero_at n k = any_of_one n k (pos 0)

-- a zero that is pushed changes no element
pub zero_pushed : (xs : List ℤ) (k : ℕ) → get_or (xs ++ pos 0 ∷ []) k (pos 0) ≡ get_or xs k (pos 0)
zero_pushed [] zero = refl
zero_pushed [] (suc k) = refl
zero_pushed (x ∷ xs) zero = refl
zero_pushed (x ∷ xs) (suc k) = zero_pushed xs k
