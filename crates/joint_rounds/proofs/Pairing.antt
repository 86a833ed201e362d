-- The matrix of a step, summed up one order after the other, and the rows that are made of it.
use Rattle.std.proofs.Common.{◌≡◌, ℕ, ◌+◌, ◌-◌, ◌*◌, ◌^◌, ◌≤◌, ◌<◌, ℤ, pos, ◌+ℤ◌, ◌*ℤ◌, eqb, ⊎_elim, map, List, [], ◌∷◌, ◌++◌, length, drop, get_or, refl, ap, ◌∙◌, arith}
use Rattle.std.specs.Prelude.{unsigned_abs}
use Rattle.std.proofs.lemmas.Int.{ints}
use Rattle.std.specs.List.{range_with_len}
use Rattle.std.proofs.lemmas.List.FromFn.{get_or-map-range_with_len, length-map-range_with_len}
use Rattle.std.proofs.lemmas.Bool.{cases_Bool}
use Rattle.list_sums.proofs.Products.{unsigned_abs-add, unsigned_abs-mul_le}
use Rattle.weight_rows.specs.Rows.{weight_in, price_of}
use Rattle.weight_rows.proofs.RowLawProofs.{weights_are_small}
use Rattle.flow_orders.specs.Orders.{Order, IsOrder}
use Rattle.flow_orders.specs.Residuals.{HasEach}
use Rattle.joint_prices.specs.Numbers.{cut, whole}
use Rattle.joint_prices.specs.Solving.{solved}
use Rattle.joint_prices.specs.Sums.{IsSquareAdded, IsSquare, AreSquareSmall, sums_of, row_from, rows_from}
use Rattle.joint_prices.proofs.Filling.{map_range_same}
use Rattle.joint_rounds.specs.OrderStates.{OrderState}
use Rattle.joint_rounds.specs.Rounds.{sum_with, aim_part}
use Rattle.joint_rounds.specs.Sums.{AreGathered}
use Rattle.joint_rounds.specs.Elimination.{pair_part, diagonal, entry, right, row_of, by_elimination, no_grid, ArePaired}
use Rattle.joint_rounds.proofs.Gathering.{sum_more, sum_none}

-- what the orders before a place contribute was added
pub record IsPairing (os : List Order) (zs : List OrderState) (old : List (List ℤ)) (i : ℕ) (now : List (List ℤ)) : Type 0 where
  pub square : IsSquare (length old) now
  pub pairs : (a b : ℕ) → a < length old → b < length old → price_of (sums_of now a) b +ℤ sum_with (pair_part a b) (drop i os) (drop i zs) ≡ price_of (sums_of old a) b +ℤ sum_with (pair_part a b) os zs
  pub small : (a b : ℕ) → a < length old → b < length old → unsigned_abs (price_of (sums_of now a) b) ≤ 2 ^ 20 + i * 2 ^ 98

pub none_paired : (os : List Order) (zs : List OrderState) (old : List (List ℤ)) → IsSquare (length old) old → AreSquareSmall (2 ^ 20) old → IsPairing os zs old 0 old
none_paired os zs old square small = record {
  square = square;
  pairs = λ a b ina inb. refl;
  small = λ a b ina inb. omega (arith, small a b ina inb);
}

pair_small : (a b : ℕ) (o : Order) (z : OrderState) → IsOrder o → z.slope ≤ 2 ^ 62 → unsigned_abs (pair_part a b o z) ≤ 2 ^ 98
pair_small a b o z is small =
    let y = pos (z.slope * 2 ^ 12) in
    let first = unsigned_abs-mul_le (weight_in o.row a) y 4096 (2 ^ 74) (weights_are_small o.row a is.row) (omega (arith, small)) in
    omega (arith, unsigned_abs-mul_le (weight_in o.row b) (weight_in o.row a *ℤ y) 4096 (2 ^ 86) (weights_are_small o.row b is.row) (omega (arith, first)))

pub one_paired : (os : List Order) (zs : List OrderState) (old : List (List ℤ)) (i : ℕ) (now next : List (List ℤ)) (o : Order) (z : OrderState)
    → i < length os → length zs ≡ length os → o ≡ get_or os i o → z ≡ get_or zs i z → IsOrder o → z.slope ≤ 2 ^ 62
    → IsPairing os zs old i now → IsSquareAdded o.row (pos (z.slope * 2 ^ 12)) now next → IsPairing os zs old (i + 1) next
one_paired os zs old i now next o z within counts o_is z_is order slopes held added =
    let there : i < length zs = omega (arith, within, counts) in
    let wide = held.square.count in
    record {
      square = record { count = added.square.count ∙ wide; each = λ a ina. added.square.each a (omega (arith, ina, wide)) ∙ wide };
      pairs = λ a b ina inb.
          let here = added.each a b (omega (arith, ina, wide)) (omega (arith, inb, wide)) in
          omega (arith, ints, here, held.pairs a b ina inb, sum_more (pair_part a b) os zs i o z within there o_is z_is);
      small = λ a b ina inb.
          let here = added.each a b (omega (arith, ina, wide)) (omega (arith, inb, wide)) in
          let part = pair_small a b o z order slopes in
          rw here (omega (arith, unsigned_abs-add (price_of (sums_of now a) b) (pair_part a b o z), part, held.small a b ina inb));
    }

pub all_paired : (os : List Order) (zs : List OrderState) (old : List (List ℤ)) (i : ℕ) (now : List (List ℤ)) → length os ≤ i → i ≤ 2 ^ 17 → IsPairing os zs old i now → ArePaired os zs old now
all_paired os zs old i now past few all = record {
  square = all.square;
  pairs = λ a b ina inb. omega (arith, ints, all.pairs a b ina inb, sum_none (pair_part a b) os zs i past);
  small = λ a b ina inb. omega (arith, all.small a b (omega (arith, ina, all.square.count)) (omega (arith, inb, all.square.count)), few);
}

-- on the way the matrix is small enough for one order more
pub pairing_small : (os : List Order) (zs : List OrderState) (old : List (List ℤ)) (i : ℕ) (now : List (List ℤ)) → i ≤ 2 ^ 17 → IsPairing os zs old i now → AreSquareSmall (2 ^ 119) now
pairing_small os zs old i now few all a b ina inb = omega (arith, all.small a b (omega (arith, ina, all.square.count)) (omega (arith, inb, all.square.count)), few)

-- ---- before any order

begun : ℕ → ℕ → List ℤ
begun n a = map (diagonal a) (range_with_len 0 n)

row_at : (n a : ℕ) → a < n → sums_of (no_grid n) a ≡ map (diagonal a) (range_with_len 0 n)
unfolding begun
row_at n a inside = get_or-map-range_with_len (begun n) 0 n a a [] inside (omega arith)

grid_at : (n a b : ℕ) → a < n → b < n → price_of (sums_of (no_grid n) a) b ≡ diagonal a b
grid_at n a b ina inb = ap (λ l. price_of l b) (row_at n a ina) ∙ get_or-map-range_with_len (diagonal a) 0 n b b (pos 0) inb (omega arith)

pub square_at_first : (n : ℕ) → IsSquare n (no_grid n)
unfolding begun
square_at_first n = record {
  count = length-map-range_with_len (begun n) 0 n;
  each = λ a inside. ap length (row_at n a inside) ∙ length-map-range_with_len (diagonal a) 0 n;
}

diagonal_small : (a b : ℕ) → unsigned_abs (diagonal a b) ≤ 2 ^ 20
diagonal_small a b = ⊎_elim (λ same. rw same (omega arith)) (λ other. rw other (omega arith)) (cases_Bool (eqb a b))

pub grid_small_at_first : (n : ℕ) → AreSquareSmall (2 ^ 20) (no_grid n)
grid_small_at_first n a b ina inb =
    let count = (square_at_first n).count in
    rw (grid_at n a b (omega (arith, ina, count)) (omega (arith, inb, count))) (diagonal_small a b)

-- ---- the rows of the system

pub elimination_is : (n : ℕ) (os : List Order) (zs : List OrderState) (grid : List (List ℤ)) (before sides : List ℤ) → HasEach n (λ a. pos 0) before → ArePaired os zs (no_grid n) grid → AreGathered aim_part os zs before sides
    → map whole (solved (rows_from grid sides)) ≡ by_elimination n os zs
unfolding by_elimination entry right
elimination_is n os zs grid before sides begins paired gathered =
    let wide : length (no_grid n) ≡ n = (square_at_first n).count in
    let count : length sides ≡ n = gathered.count ∙ begins.count in
    let square : (a : ℕ) → a < n → length (sums_of grid a) ≡ n = λ a ina. paired.square.each a (omega (arith, ina, wide)) ∙ wide in
    let cell : (a b : ℕ) → a < n → b < n → price_of (sums_of grid a) b ≡ diagonal a b +ℤ sum_with (pair_part a b) os zs =
    λ a b ina inb. paired.pairs a b (omega (arith, ina, wide)) (omega (arith, inb, wide)) ∙ ap (λ x. x +ℤ sum_with (pair_part a b) os zs) (grid_at n a b ina inb) in
    let side : (a : ℕ) → a < n → price_of sides a ≡ sum_with (aim_part a) os zs =
    λ a ina. omega (arith, ints, gathered.each a (omega (arith, ina, begins.count)), begins.each a ina) in
    let rows : rows_from grid sides ≡ map (row_of n os zs) (range_with_len 0 n) =
    ap (λ k. map (λ a. row_from (sums_of grid a) (price_of sides a) a) (range_with_len 0 k)) count
    ∙ map_range_same (λ a. row_from (sums_of grid a) (price_of sides a) a) (row_of n os zs) 0 n
    (λ a low high.
    let ina : a < n = omega (arith, high) in
    ap (λ k. map (λ b. cut (price_of (sums_of grid a) b) (pos 0)) (range_with_len a (k - a)) ++ cut (price_of sides a) (pos 50) ∷ []) (square a ina)
    ∙ ap (λ xs. xs ++ cut (price_of sides a) (pos 50) ∷ []) (map_range_same (λ b. cut (price_of (sums_of grid a) b) (pos 0)) (λ b. cut (diagonal a b +ℤ sum_with (pair_part a b) os zs) (pos 0)) a (n - a)
    (λ b from to. ap (λ z. cut z (pos 0)) (cell a b ina (omega (arith, to, ina)))))
    ∙ ap (λ z. map (λ b. cut (diagonal a b +ℤ sum_with (pair_part a b) os zs) (pos 0)) (range_with_len a (n - a)) ++ cut z (pos 50) ∷ []) (side a ina)) in
    ap (λ r. map whole (solved r)) rows
