-- The system of a step, solved by elimination. Both sides are scaled by 2^82.
use Rattle.std.specs.Prelude.{◌≡◌, ℕ, ◌-◌, ◌*◌, ◌^◌, ◌<◌, ◌==◌, if◌then◌else◌, ℤ, pos, ◌+ℤ◌, ◌*ℤ◌, List, [], ◌∷◌, ◌++◌, length, map}
use Rattle.std.specs.List.{range_with_len}
use Rattle.weight_rows.specs.Rows.{weight_in, price_of}
use Rattle.flow_orders.specs.Orders.{Order}
use Rattle.joint_prices.specs.Numbers.{Num, cut, whole}
use Rattle.joint_prices.specs.Solving.{solved, IsTriangle}
use Rattle.joint_prices.specs.Sums.{IsSquare, AreSquareSmall, sums_of}
use Rattle.joint_rounds.specs.OrderStates.{OrderState}
use Rattle.joint_rounds.specs.Rounds.{sum_with, aim_part}

-- what an order adds to the matrix at two assets: its weights there times its slope
abbrev pub pair_part : ℕ → ℕ → Order → OrderState → ℤ
pair_part a b o z = weight_in o.row b *ℤ (weight_in o.row a *ℤ pos (z.slope * 2 ^ 12))

-- what the diagonal has besides: as much as each size has, so that prices that no order asks for stay
abbrev pub diagonal : ℕ → ℕ → ℤ
diagonal a b = if a == b then pos (2 ^ 12) else pos 0

-- the matrix: how many units more of asset a the orders buy to first order for each unit of money that asset b falls, in 1/2^82 of a unit
unfoldable pub entry : List Order → List OrderState → ℕ → ℕ → ℤ
entry os zs a b = diagonal a b +ℤ sum_with (pair_part a b) os zs

-- the right side: how many units of an asset the orders buy in sum after a whole Newton step at these prices, in 1/2^32 of a unit
unfoldable pub right : List Order → List OrderState → ℕ → ℤ
right os zs a = sum_with (aim_part a) os zs

-- the row of an asset in the upper triangle; the right side is scaled by 2^50, to the unit of the matrix
abbrev pub row_of : ℕ → List Order → List OrderState → ℕ → List Num
row_of n os zs a = map (λ b. cut (entry os zs a b) (pos 0)) (range_with_len a (n - a)) ++ cut (right os zs a) (pos 50) ∷ []

-- by how much each price moves, in money: the solution of the system
unfoldable pub by_elimination : ℕ → List Order → List OrderState → List ℤ
by_elimination n os zs = map whole (solved (map (row_of n os zs) (range_with_len 0 n)))

-- ---- as loops make it

-- the matrix of no orders
abbrev pub no_grid : ℕ → List (List ℤ)
no_grid n = map (λ a. map (diagonal a) (range_with_len 0 n)) (range_with_len 0 n)

-- what some orders contribute to the matrix was added
pub record ArePaired (os : List Order) (zs : List OrderState) (old new : List (List ℤ)) : Type 0 where
  pub square : IsSquare (length old) new
  pub pairs : (a b : ℕ) → a < length old → b < length old → price_of (sums_of new a) b ≡ price_of (sums_of old a) b +ℤ sum_with (pair_part a b) os zs
  pub small : AreSquareSmall (2 ^ 120) new

-- the memory of the elimination of n assets: each part has its length
pub record HasRoomFor (n : ℕ) (grid : List (List ℤ)) (sides : List ℤ) (rows : List (List Num)) (found : List Num) : Type 0 where
  pub square : IsSquare n grid
  pub wide : length sides ≡ n
  pub triangle : IsTriangle rows
  pub count : length rows ≡ n
  pub places : length found ≡ n
