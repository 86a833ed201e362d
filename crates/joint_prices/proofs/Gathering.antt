-- The matrix and the right side, summed up one order after the other.
use Rattle.std.proofs.Common.{◌≡◌, ℕ, ◌+◌, ◌-◌, ◌*◌, ◌^◌, ◌≤◌, ◌<◌, ℤ, pos, ◌+ℤ◌, ◌-ℤ◌, ◌*ℤ◌, eqb, ⊎_elim, map, List, [], ◌∷◌, ◌++◌, length, drop, get_or, length-append, refl, ap, ◌∙◌, arith}
use Rattle.std.specs.Prelude.{unsigned_abs, ◌/◌, All}
use Rattle.std.proofs.lemmas.Int.{ints}
use Rattle.std.proofs.lemmas.List.{drop_more, drop_all}
use Rattle.std.specs.List.{range_with_len}
use Rattle.std.proofs.lemmas.List.FromFn.{get_or-map-range_with_len, length-map-range_with_len}
use Rattle.std.proofs.lemmas.Bool.{cases_Bool}
use Rattle.std.proofs.Math.Nat.{div-le_of_le-mul}
use Rattle.joint_prices.proofs.NumberFacts.{quot_size}
use Rattle.list_sums.proofs.Products.{unsigned_abs-add, unsigned_abs-mul_le}
use Rattle.weight_rows.specs.Rows.{weight_in, price_of, IsPrice}
use Rattle.weight_rows.proofs.RowLawProofs.{weights_are_small}
use Rattle.flow_orders.specs.Orders.{Order, IsOrder}
use Rattle.joint_prices.specs.OrderStates.{OrderState, slope, aim}
use Rattle.joint_prices.specs.Steps.{sum_with, pair_part, aim_part, entry, right, diagonal, regularization, row_of, moves}
use Rattle.joint_prices.specs.Numbers.{cut, whole}
use Rattle.joint_prices.specs.Solving.{solved, IsTriangle}
use Rattle.joint_prices.proofs.Filling.{map_range_same}
use Rattle.joint_prices.specs.Sums.{IsRowAdded, IsSquareAdded, IsSquare, AreSmall, AreSquareSmall, AreGathered, IsSystem, sums_of, no_grid, no_sides, row_from, rows_from}

-- what the orders before a place contribute was added
pub record IsGathering (os : List Order) (ss : List OrderState) (old : List (List ℤ)) (before : List ℤ) (i : ℕ) (grid : List (List ℤ)) (sides : List ℤ) : Type 0 where
  pub square : IsSquare (length before) grid
  pub count : length sides ≡ length before
  pub pairs : (a b : ℕ) → a < length before → b < length before → price_of (sums_of grid a) b +ℤ sum_with (pair_part a b) (drop i os) (drop i ss) ≡ price_of (sums_of old a) b +ℤ sum_with (pair_part a b) os ss
  pub rights : (a : ℕ) → a < length before → price_of sides a +ℤ sum_with (aim_part a) (drop i os) (drop i ss) ≡ price_of before a +ℤ sum_with (aim_part a) os ss
  pub small : (a b : ℕ) → a < length before → b < length before → unsigned_abs (price_of (sums_of grid a) b) ≤ 2 ^ 34 + i * 2 ^ 98
  pub small_sides : (a : ℕ) → a < length before → unsigned_abs (price_of sides a) ≤ 2 ^ 34 + i * 2 ^ 98

pub none_gathered : (os : List Order) (ss : List OrderState) (old : List (List ℤ)) (before : List ℤ) → IsSquare (length before) old → AreSquareSmall (2 ^ 34) old → AreSmall (2 ^ 34) before → IsGathering os ss old before 0 old before
none_gathered os ss old before square small small_sides = record {
  square = square;
  count = refl;
  pairs = λ a b ina inb. refl;
  rights = λ a ina. refl;
  small = λ a b ina inb. omega (arith, small a b (omega (arith, ina, square.count)) (omega (arith, inb, square.count)));
  small_sides = λ a ina. omega (arith, small_sides a ina);
}

sum_more : (f : Order → OrderState → ℤ) (os : List Order) (ss : List OrderState) (i : ℕ) (o : Order) (s : OrderState) → i < length os → i < length ss → o ≡ get_or os i o → s ≡ get_or ss i s
    → sum_with f (drop i os) (drop i ss) ≡ f o s +ℤ sum_with f (drop (i + 1) os) (drop (i + 1) ss)
sum_more f os ss i o s inside there o_is s_is =
    rw (drop_more os i o inside, drop_more ss i s there, ← o_is, ← s_is) refl

pair_small : (a b : ℕ) (o : Order) (s : OrderState) → IsOrder o → slope s ≤ 2 ^ 74 → unsigned_abs (pair_part a b o s) ≤ 2 ^ 98
pair_small a b o s is small =
    let first = unsigned_abs-mul_le (weight_in o.row a) (pos (slope s)) 4096 (2 ^ 74) (weights_are_small o.row a is.row) small in
    omega (arith, unsigned_abs-mul_le (weight_in o.row b) (weight_in o.row a *ℤ pos (slope s)) 4096 (2 ^ 86) (weights_are_small o.row b is.row) (omega (arith, first)))

aim_small : (a : ℕ) (o : Order) (s : OrderState) → IsOrder o → unsigned_abs (aim s) ≤ 2 ^ 85 → unsigned_abs (aim_part a o s) ≤ 2 ^ 98
aim_small a o s is small = omega (arith, unsigned_abs-mul_le (weight_in o.row a) (aim s) 4096 (2 ^ 85) (weights_are_small o.row a is.row) small)

pub one_gathered : (os : List Order) (ss : List OrderState) (old : List (List ℤ)) (before : List ℤ) (i : ℕ) (grid next : List (List ℤ)) (sides after : List ℤ) (o : Order) (s : OrderState)
    → i < length os → length ss ≡ length os → o ≡ get_or os i o → s ≡ get_or ss i s → IsOrder o → unsigned_abs (aim s) ≤ 2 ^ 85 → slope s ≤ 2 ^ 74
    → IsGathering os ss old before i grid sides → IsSquareAdded o.row (pos (slope s)) grid next → IsRowAdded o.row (aim s) sides after
    → IsGathering os ss old before (i + 1) next after
one_gathered os ss old before i grid next sides after o s within counts o_is s_is order aims slopes held added grown =
    let there : i < length ss = omega (arith, within, counts) in
    let wide = held.square.count in
    let more = λ (f : Order → OrderState → ℤ). sum_more f os ss i o s within there o_is s_is in
    record {
      square = record { count = added.square.count ∙ wide; each = λ a ina. added.square.each a (omega (arith, ina, wide)) ∙ wide };
      count = grown.count ∙ held.count;
      pairs = λ a b ina inb.
          let here = added.each a b (omega (arith, ina, wide)) (omega (arith, inb, wide)) in
          omega (arith, ints, here, held.pairs a b ina inb, more (pair_part a b));
      rights = λ a ina.
          let here = grown.each a (omega (arith, ina, held.count)) in
          omega (arith, ints, here, held.rights a ina, more (aim_part a));
      small = λ a b ina inb.
          let here = added.each a b (omega (arith, ina, wide)) (omega (arith, inb, wide)) in
          let part = pair_small a b o s order slopes in
          rw here (omega (arith, unsigned_abs-add (price_of (sums_of grid a) b) (pair_part a b o s), part, held.small a b ina inb));
      small_sides = λ a ina.
          let here = grown.each a (omega (arith, ina, held.count)) in
          let part = aim_small a o s order aims in
          rw here (omega (arith, unsigned_abs-add (price_of sides a) (aim_part a o s), part, held.small_sides a ina));
    }

sum_none : (f : Order → OrderState → ℤ) (os : List Order) (ss : List OrderState) (i : ℕ) → length os ≤ i → sum_with f (drop i os) (drop i ss) ≡ pos 0
sum_none f os ss i past = rw (drop_all i os past) refl

pub all_gathered : (os : List Order) (ss : List OrderState) (old : List (List ℤ)) (before : List ℤ) (i : ℕ) (grid : List (List ℤ)) (sides : List ℤ) → length os ≤ i → i ≤ 2 ^ 14 → IsGathering os ss old before i grid sides → AreGathered os ss old before grid sides
all_gathered os ss old before i grid sides past few all = record {
  square = all.square;
  count = all.count;
  pairs = λ a b ina inb. omega (arith, ints, all.pairs a b ina inb, sum_none (pair_part a b) os ss i past);
  rights = λ a ina. omega (arith, ints, all.rights a ina, sum_none (aim_part a) os ss i past);
  small = λ a b ina inb. omega (arith, all.small a b (omega (arith, ina, all.square.count)) (omega (arith, inb, all.square.count)), few);
  small_sides = λ a ina. omega (arith, all.small_sides a (omega (arith, ina, all.count)), few);
}

-- ---- before any order

sides_at : (start prices : List ℤ) (a : ℕ) → a < length prices → price_of (no_sides start prices) a ≡ regularization start prices a
sides_at start prices a inside = get_or-map-range_with_len (regularization start prices) 0 (length prices) a a (pos 0) inside (omega arith)

begun : ℕ → ℕ → List ℤ
begun n a = map (diagonal a) (range_with_len 0 n)

row_at : (n a : ℕ) → a < n → sums_of (no_grid n) a ≡ map (diagonal a) (range_with_len 0 n)
unfolding begun
row_at n a inside = get_or-map-range_with_len (begun n) 0 n a a [] inside (omega arith)

grid_at : (n a b : ℕ) → a < n → b < n → price_of (sums_of (no_grid n) a) b ≡ diagonal a b
grid_at n a b ina inb = ap (λ l. price_of l b) (row_at n a ina) ∙ get_or-map-range_with_len (diagonal a) 0 n b b (pos 0) inb (omega arith)

pub square_at_first : (n : ℕ) → IsSquare n (no_grid n)
unfolding begun
square_at_first n = record {
  count = length-map-range_with_len (begun n) 0 n;
  each = λ a inside. ap length (row_at n a inside) ∙ length-map-range_with_len (diagonal a) 0 n;
}

diagonal_small : (a b : ℕ) → unsigned_abs (diagonal a b) ≤ 2 ^ 34
diagonal_small a b = ⊎_elim (λ same. rw same (omega arith)) (λ other. rw other (omega arith)) (cases_Bool (eqb a b))

pub grid_small_at_first : (n : ℕ) → AreSquareSmall (2 ^ 34) (no_grid n)
grid_small_at_first n a b ina inb =
    let count = (square_at_first n).count in
    rw (grid_at n a b (omega (arith, ina, count)) (omega (arith, inb, count))) (diagonal_small a b)

pub count_of_sides : (start prices : List ℤ) → length (no_sides start prices) ≡ length prices
count_of_sides start prices = length-map-range_with_len (regularization start prices) 0 (length prices)

pub sides_small_at_first : (start prices : List ℤ) → All IsPrice start → All IsPrice prices → length start ≡ length prices → AreSmall (2 ^ 34) (no_sides start prices)
sides_small_at_first start prices first range same a inside =
    let there : a < length prices = omega (arith, inside, count_of_sides start prices) in
    let x = price_of start a -ℤ price_of prices a in
    let near : unsigned_abs x ≤ 2 ^ 63 = omega (arith, ints, first a (pos 0) (omega (arith, there, same)), range a (pos 0) there) in
    let over : unsigned_abs x / 2 ^ 30 ≤ 2 ^ 33 = div-le_of_le-mul (2 ^ 30) (omega (arith, near)) in
    rw (sides_at start prices a there, quot_size x (2 ^ 30)) (omega (arith, over))

pub whole_system : (start prices : List ℤ) (os : List Order) (ss : List OrderState) (grid : List (List ℤ)) (sides : List ℤ) (n : ℕ) → n ≡ length prices
    → AreGathered os ss (no_grid n) (no_sides start prices) grid sides → IsSystem start prices os ss grid sides
unfolding entry right
whole_system start prices os ss grid sides n n_is all =
    let count = count_of_sides start prices in
    record {
      square = rw (← count) all.square;
      count = all.count ∙ count;
      pairs = λ a b ina inb. all.pairs a b (omega (arith, ina, count)) (omega (arith, inb, count)) ∙ ap (λ x. x +ℤ sum_with (pair_part a b) os ss) (grid_at n a b (omega (arith, ina, n_is)) (omega (arith, inb, n_is)));
      rights = λ a ina. all.rights a (omega (arith, ina, count)) ∙ ap (λ x. x +ℤ sum_with (aim_part a) os ss) (sides_at start prices a ina);
      small = all.small;
      small_sides = all.small_sides;
    }

-- ---- the rows of the system

pub moves_are : (start prices : List ℤ) (os : List Order) (ss : List OrderState) (grid : List (List ℤ)) (sides : List ℤ) → IsSystem start prices os ss grid sides
    → map whole (solved (rows_from grid sides)) ≡ moves start prices os ss
unfolding moves
moves_are start prices os ss grid sides is =
    let rows : rows_from grid sides ≡ map (row_of start prices os ss) (range_with_len 0 (length prices)) =
    ap (λ n. map (λ a. row_from (sums_of grid a) (price_of sides a) a) (range_with_len 0 n)) is.count
    ∙ map_range_same (λ a. row_from (sums_of grid a) (price_of sides a) a) (row_of start prices os ss) 0 (length prices)
    (λ a low high.
    let ina : a < length prices = omega (arith, high) in
    ap (λ n. map (λ b. cut (price_of (sums_of grid a) b) (pos 0)) (range_with_len a (n - a)) ++ cut (price_of sides a) (pos 50) ∷ []) (is.square.each a ina)
    ∙ ap (λ xs. xs ++ cut (price_of sides a) (pos 50) ∷ []) (map_range_same (λ b. cut (price_of (sums_of grid a) b) (pos 0)) (λ b. cut (entry os ss a b) (pos 0)) a (length prices - a)
    (λ b from to. ap (λ z. cut z (pos 0)) (is.pairs a b ina (omega (arith, to, ina)))))
    ∙ ap (λ z. map (λ b. cut (entry os ss a b) (pos 0)) (range_with_len a (length prices - a)) ++ cut z (pos 50) ∷ []) (is.rights a ina)) in
    ap (λ r. map whole (solved r)) rows

pub triangle_from : (grid : List (List ℤ)) (sides : List ℤ) → IsSquare (length sides) grid → IsTriangle (rows_from grid sides)
triangle_from grid sides square k within =
    let n = length sides in
    let count : length (rows_from grid sides) ≡ n = length-map-range_with_len (λ a. row_from (sums_of grid a) (price_of sides a) a) 0 n in
    let ink : k < n = omega (arith, within, count) in
    let here : get_or (rows_from grid sides) k [] ≡ row_from (sums_of grid k) (price_of sides k) k = get_or-map-range_with_len (λ a. row_from (sums_of grid a) (price_of sides a) a) 0 n k k [] ink (omega arith) in
    let long : length (row_from (sums_of grid k) (price_of sides k) k) ≡ length (sums_of grid k) - k + 1 =
    length-append (map (λ b. cut (price_of (sums_of grid k) b) (pos 0)) (range_with_len k (length (sums_of grid k) - k))) (cut (price_of sides k) (pos 50) ∷ [])
    ∙ ap (λ m. m + 1) (length-map-range_with_len (λ b. cut (price_of (sums_of grid k) b) (pos 0)) k (length (sums_of grid k) - k)) in
    omega (arith, ap length here, long, square.each k ink, ink, count)

pub count_from : (grid : List (List ℤ)) (sides : List ℤ) → length (rows_from grid sides) ≡ length sides
count_from grid sides = length-map-range_with_len (λ a. row_from (sums_of grid a) (price_of sides a) a) 0 (length sides)
