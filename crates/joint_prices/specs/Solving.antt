-- The solution of a symmetric linear system by Gaussian elimination of its upper triangle, without pivoting. A row begins with its diagonal and
-- ends with its right side; by symmetry what is before the diagonal isn't kept.
use Rattle.std.specs.Prelude.{◌≡◌, ℕ, zero, suc, ◌+◌, ◌<◌, List, [], ◌∷◌, length, drop, slice_index_or, pos, if◌then◌else◌}
use Rattle.std.specs.Ordering.{int_eq}
use Rattle.joint_prices.specs.Numbers.{Num, zero_num, minus, times, over}

-- the number at a place of a row
abbrev pub at : List Num → ℕ → Num
at row k = slice_index_or row k zero_num

-- a row less f times another
abbrev pub reduced : Num → List Num → List Num → List Num
reduced f [] row = row
reduced f (x ∷ r) [] = []
reduced f (x ∷ r) (t ∷ row) = minus t (times f x) ∷ reduced f r row

-- a row after the unknown of a row above it is eliminated, which has the diagonal a and r from this row's diagonal on; if the coefficient x to
-- eliminate is 0, the row stays
abbrev pub lessened : Num → List Num → List Num → List Num
lessened a [] row = row
lessened a (x ∷ r) row = if int_eq x.m (pos 0) then row else reduced (over x a) (x ∷ r) row

-- the rows below one with diagonal a and rest r, after its unknown is eliminated from each
abbrev pub below : Num → List Num → List (List Num) → List (List Num)
below a [] rows = rows
below a (x ∷ r) [] = []
below a (x ∷ r) (row ∷ rows) = lessened a (x ∷ r) row ∷ below a r rows

-- t less the product of the coefficients r and the unknowns xs
abbrev pub less : Num → List Num → List Num → Num
less t [] xs = t
less t (g ∷ r) [] = t
less t (g ∷ r) (x ∷ xs) = less (minus t (times g x)) r xs

-- one step of back substitution: the unknown of a row, before those of the rows below it
abbrev pub joined : List Num → List Num → List Num
joined row xs = over (less (at row (length xs + 1)) (drop 1 row) xs) (at row 0) ∷ xs

-- the unknowns of the first n rows
abbrev pub solved_in : ℕ → List (List Num) → List Num
solved_in zero rows = []
solved_in (suc n) [] = []
solved_in (suc n) (row ∷ rows) = joined row (solved_in n (below (at row 0) (drop 1 row) rows))

-- the unknowns of all rows
unfoldable pub solved : List (List Num) → List Num
solved rows = solved_in (length rows) rows

-- each row ends with its right side
abbrev pub IsTriangle : List (List Num) → Type 0
IsTriangle rows = (k : ℕ) → k < length rows → length (slice_index_or rows k []) + k ≡ length rows + 1

-- back substitution: the unknowns of rows from which those before them are eliminated, before the unknowns xs
abbrev pub finished : List (List Num) → List Num → List Num
finished [] xs = xs
finished (row ∷ rows) xs = joined row (finished rows xs)
