-- The matrix and the right side of a step's system, as loops sum them up over the orders.
use Rattle.std.specs.Prelude.{◌≡◌, ℕ, ◌-◌, ◌^◌, ◌<◌, ◌≤◌, ℤ, pos, ◌+ℤ◌, ◌*ℤ◌, unsigned_abs, List, [], ◌∷◌, ◌++◌, length, map, slice_index_or, All}
use Rattle.weight_rows.specs.declared.entries.Entry.{Entry}
use Rattle.weight_rows.specs.Rows.{weight_in, price_of, IsPrice}
use Rattle.std.specs.List.{range_with_len}
use Rattle.flow_orders.specs.Orders.{Order}
use Rattle.flow_orders.specs.Residuals.{HasEach}
use Rattle.joint_prices.specs.Numbers.{Num, cut}
use Rattle.joint_prices.specs.Solving.{IsTriangle}
use Rattle.joint_prices.specs.OrderStates.{OrderState}
use Rattle.joint_prices.specs.Steps.{sum_with, pair_part, aim_part, diagonal, regularization, entry, right}

-- each sum has grown by the asset's weight in a row times a factor
abbrev pub IsRowAdded : List Entry → ℤ → List ℤ → List ℤ → Type 0
IsRowAdded row factor old new = HasEach (length old) (λ b. price_of old b +ℤ weight_in row b *ℤ factor) new

-- each sum there is is at most this far from 0
abbrev pub AreSmall : ℕ → List ℤ → Type 0
AreSmall bound sums = (a : ℕ) → a < length sums → unsigned_abs (price_of sums a) ≤ bound

-- the row of the matrix at asset a
abbrev pub sums_of : List (List ℤ) → ℕ → List ℤ
sums_of grid a = slice_index_or grid a []

-- a square matrix of n rows
pub record IsSquare (n : ℕ) (grid : List (List ℤ)) : Type 0 where
  pub count : length grid ≡ n
  pub each : (a : ℕ) → a < n → length (sums_of grid a) ≡ n

-- the matrix has grown by the outer product of a weight vector with itself, times a factor
pub record IsSquareAdded (row : List Entry) (factor : ℤ) (old new : List (List ℤ)) : Type 0 where
  pub square : IsSquare (length old) new
  pub each : (a b : ℕ) → a < length old → b < length old → price_of (sums_of new a) b ≡ price_of (sums_of old a) b +ℤ weight_in row b *ℤ (weight_in row a *ℤ factor)

-- each sum of two assets is at most this far from 0
abbrev pub AreSquareSmall : ℕ → List (List ℤ) → Type 0
AreSquareSmall bound grid = (a b : ℕ) → a < length grid → b < length grid → unsigned_abs (price_of (sums_of grid a) b) ≤ bound

-- the system of the orders in these states: its matrix and its right side
pub record IsSystem (start prices : List ℤ) (os : List Order) (ss : List OrderState) (grid : List (List ℤ)) (sides : List ℤ) : Type 0 where
  pub square : IsSquare (length prices) grid
  pub count : length sides ≡ length prices
  pub pairs : (a b : ℕ) → a < length prices → b < length prices → price_of (sums_of grid a) b ≡ entry os ss a b
  pub rights : (a : ℕ) → a < length prices → price_of sides a ≡ right start prices os ss a
  pub small : AreSquareSmall (2 ^ 120) grid
  pub small_sides : AreSmall (2 ^ 120) sides

-- what some orders contribute to the matrix and to the right side was added
pub record AreGathered (os : List Order) (ss : List OrderState) (old : List (List ℤ)) (before : List ℤ) (grid : List (List ℤ)) (sides : List ℤ) : Type 0 where
  pub square : IsSquare (length before) grid
  pub count : length sides ≡ length before
  pub pairs : (a b : ℕ) → a < length before → b < length before → price_of (sums_of grid a) b ≡ price_of (sums_of old a) b +ℤ sum_with (pair_part a b) os ss
  pub rights : (a : ℕ) → a < length before → price_of sides a ≡ price_of before a +ℤ sum_with (aim_part a) os ss
  pub small : AreSquareSmall (2 ^ 120) grid
  pub small_sides : AreSmall (2 ^ 120) sides

-- the matrix and the right side of no orders: the regularization
abbrev pub no_grid : ℕ → List (List ℤ)
no_grid n = map (λ a. map (diagonal a) (range_with_len 0 n)) (range_with_len 0 n)

abbrev pub no_sides : List ℤ → List ℤ → List ℤ
no_sides start prices = map (regularization start prices) (range_with_len 0 (length prices))

-- the row of the upper triangle that is made of the sums of an asset and its right side
abbrev pub row_from : List ℤ → ℤ → ℕ → List Num
row_from sums side a = map (λ b. cut (price_of sums b) (pos 0)) (range_with_len a (length sums - a)) ++ cut side (pos 50) ∷ []

-- the upper triangle that is made of the matrix and the right side
abbrev pub rows_from : List (List ℤ) → List ℤ → List (List Num)
rows_from grid sides = map (λ a. row_from (sums_of grid a) (price_of sides a) a) (range_with_len 0 (length sides))

-- the memory of the system of n assets: each part has its length
pub record HasRoom (n : ℕ) (grid : List (List ℤ)) (sides : List ℤ) (rows : List (List Num)) (found : List Num) (by : List ℤ) : Type 0 where
  pub square : IsSquare n grid
  pub wide : length sides ≡ n
  pub triangle : IsTriangle rows
  pub count : length rows ≡ n
  pub places : length found ≡ n
  pub small : All IsPrice by
