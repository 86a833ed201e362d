-- Laws of sums over lists, whatever the members are.
use Rattle.std.specs.Prelude.{◌≡◌, ℕ, ◌*◌, ◌≤◌, ◌<◌, ℤ, pos, ◌+ℤ◌, ◌-ℤ◌, ◌*ℤ◌, ◌≤ℤ◌, unsigned_abs, List, [], ◌∷◌, ◌++◌, length, slice_index_or, slice_set, map, All}
use Rattle.list_sums.specs.Sums.{int_sum_by}

-- the sum over two joined lists is the sum over the first plus the sum over the second
abbrev pub SumsJoin : Type 0 → Type 0
SumsJoin X = (f : X → ℤ) (xs ys : List X) → int_sum_by f (xs ++ ys) ≡ int_sum_by f xs +ℤ int_sum_by f ys

-- pushing a member adds its summand to the sum
abbrev pub SumsPush : Type 0 → Type 0
SumsPush X = (f : X → ℤ) (xs : List X) (y : X) → int_sum_by f (xs ++ y ∷ []) ≡ int_sum_by f xs +ℤ f y

-- replacing a member changes the sum by as much as it changes that member's summand
abbrev pub SumsSet : Type 0 → Type 0
SumsSet X = (f : X → ℤ) (xs : List X) (i : ℕ) (y d : X) (amount : ℤ) → i < length xs → f y ≡ f (slice_index_or xs i d) +ℤ amount
    → int_sum_by f (slice_set xs i y) ≡ int_sum_by f xs +ℤ amount

-- sums whose summands are equal, member by member, are equal
abbrev pub SumsAgree : Type 0 → Type 0
SumsAgree X = (f g : X → ℤ) (xs : List X) → All (λ x. f x ≡ g x) xs → int_sum_by f xs ≡ int_sum_by g xs

-- sums whose summands are in order, member by member, are in order
abbrev pub SumsKeepOrder : Type 0 → Type 0
SumsKeepOrder X = (f g : X → ℤ) (xs : List X) → All (λ x. f x ≤ℤ g x) xs → int_sum_by f xs ≤ℤ int_sum_by g xs

-- a sum of zeros is 0
abbrev pub SumsOfZeros : Type 0 → Type 0
SumsOfZeros X = (f : X → ℤ) (xs : List X) → All (λ x. f x ≡ pos 0) xs → int_sum_by f xs ≡ pos 0

-- the sum of f + g is the sum of f plus the sum of g
abbrev pub SumsAdd : Type 0 → Type 0
SumsAdd X = (f g : X → ℤ) (xs : List X) → int_sum_by (λ x. f x +ℤ g x) xs ≡ int_sum_by f xs +ℤ int_sum_by g xs

-- the sum of f - g is the sum of f minus the sum of g
abbrev pub SumsSubtract : Type 0 → Type 0
SumsSubtract X = (f g : X → ℤ) (xs : List X) → int_sum_by (λ x. f x -ℤ g x) xs ≡ int_sum_by f xs -ℤ int_sum_by g xs

-- the sum of c times f is c times the sum of f
abbrev pub SumsScale : Type 0 → Type 0
SumsScale X = (f : X → ℤ) (c : ℤ) (xs : List X) → int_sum_by (λ x. c *ℤ f x) xs ≡ c *ℤ int_sum_by f xs

-- a sum of summands of at most m, in absolute value, is at most m times their number in absolute value
abbrev pub SumsAreBounded : Type 0 → Type 0
SumsAreBounded X = (f : X → ℤ) (m : ℕ) (xs : List X) → All (λ x. unsigned_abs (f x) ≤ m) xs → unsigned_abs (int_sum_by f xs) ≤ length xs * m

-- the sum of f over a mapped list is the sum over the list of f after the map
abbrev pub SumsMap : Type 0 → Type 0 → Type 0
SumsMap X Y = (f : Y → ℤ) (g : X → Y) (xs : List X) → int_sum_by f (map g xs) ≡ int_sum_by (λ x. f (g x)) xs

-- two nested sums may be exchanged
abbrev pub SumsExchange : Type 0 → Type 0 → Type 0
SumsExchange X Y = (f : X → Y → ℤ) (xs : List X) (ys : List Y)
    → int_sum_by (λ x. int_sum_by (λ y. f x y) ys) xs ≡ int_sum_by (λ y. int_sum_by (λ x. f x y) xs) ys
