-- Columns: the orders that name an asset, and sums over them.
use Rattle.std.proofs.Common.{◌≡◌, ⊎_elim, ℕ, suc, ◌+◌, ◌*◌, ◌≤◌, ◌<◌, ℤ, pos, List, [], ◌∷◌, ◌++◌, length, take, length-take, get_or, eqb, refl, ap, sym, ◌∙◌, arith}
use Rattle.std.specs.Prelude.{unsigned_abs, All}
use Rattle.std.specs.List.{sum_by}
use Rattle.std.specs.Int.{div_ceil}
use Rattle.std.proofs.lemmas.Int.{ints}
use Rattle.std.proofs.lemmas.Bool.{cases_Bool, eqb-true}
use Rattle.std.proofs.lemmas.List.{take_more}
use Rattle.std.proofs.lemmas.List.Elements.{All-cons}
use Rattle.list_sums.specs.Sums.{int_sum_by}
use Rattle.weight_rows.specs.Rows.{most_weight, weight_in}
use Rattle.flow_orders.specs.Orders.{Order}
use Rattle.flow_orders.specs.Excess.{spread, steepness}
use Rattle.flow_orders.proofs.BookSums.{int_sum_by-pos}
use Rattle.excess_bounds.specs.declared.columns.Cell.{Cell}
use Rattle.excess_bounds.specs.Columns.{column_from, column_of}
use Rattle.excess_bounds.specs.Private.{spread_in, steepness_in}

-- the cell of an order at a place
abbrev pub cell_at : ℕ → ℕ → Order → Cell
cell_at asset place o = record { place = place; weight = weight_in o.row asset }

-- no weight is too large
abbrev pub is_light : Cell → Type 0
is_light c = unsigned_abs c.weight ≤ most_weight

module _ (asset : ℕ) where
  -- one order more
  pub column_more : (place : ℕ) (orders : List Order) (o : Order) → column_from place (orders ++ o ∷ []) asset ≡ column_from place orders asset ++ column_from (place + length orders) (o ∷ []) asset
  column_more place [] o = let same : place + 0 ≡ place = omega arith in rw same refl
  column_more place (p ∷ orders) o =
      let next : place + 1 + length orders ≡ place + suc (length orders) = omega arith in
      let rest = rw next at (column_more (place + 1) orders o) in
      ⊎_elim
      (λ none. rw none rest)
      (λ some. rw some (ap (λ cells. cell_at asset place p ∷ cells) rest))
      (cases_Bool (eqb (unsigned_abs (weight_in p.row asset)) 0))

  -- the cells of the first i orders and of one more
  pub cells_more : (orders : List Order) (i : ℕ) (o : Order) (cells found next : List Cell) → i < length orders → o ≡ get_or orders i o
      → cells ≡ column_of (take i orders) asset → found ≡ column_from i (o ∷ []) asset → next ≡ cells ++ found
      → next ≡ column_of (take (i + 1) orders) asset
  cells_more orders i o cells found next within here before is more =
      let count : 0 + length (take i orders) ≡ i = omega (arith, length-take i orders, within) in
      let all = rw count at (column_more 0 (take i orders) o) in
      more ∙ rw (before, is) (sym all) ∙ ap (λ os. column_of os asset) (ap (λ x. take i orders ++ x ∷ []) here ∙ sym (take_more orders i o within))

  -- what holds of the cell that each order would have holds of all cells
  pub all_cells : (P : Cell → Type 0) (place : ℕ) (orders : List Order) → ((k : ℕ) (o : Order) → k < length orders → P (cell_at asset (place + k) (get_or orders k o)))
      → All P (column_from place orders asset)
  all_cells P place [] each = λ k d inside. absurd (omega (arith, inside))
  all_cells P place (o ∷ orders) each =
      let rest = all_cells P (place + 1) orders
      (λ k d inside. let next : place + 1 + k ≡ place + suc k = omega arith in rw next (each (suc k) d (omega (arith, inside)))) in
      let at : place + 0 ≡ place = omega arith in
      let here : P (cell_at asset place o) = rw at at (each 0 o (omega arith)) in
      ⊎_elim
      (λ none. rw none rest)
      (λ some. rw some (All-cons P (cell_at asset place o) (column_from (place + 1) orders asset) here rest))
      (cases_Bool (eqb (unsigned_abs (weight_in o.row asset)) 0))

  -- there are no more cells than orders
  pub column_length : (place : ℕ) (orders : List Order) → length (column_from place orders asset) ≤ length orders
  column_length place [] = omega arith
  column_length place (o ∷ orders) =
      let rest = column_length (place + 1) orders in
      ⊎_elim
      (λ none. rw none (omega (arith, rest)))
      (λ some. rw some (omega (arith, rest)))
      (cases_Bool (eqb (unsigned_abs (weight_in o.row asset)) 0))

  -- a sum over the column is one over the orders, if orders that don't name the asset add 0
  pub column_sum : (f : Order → ℤ) (g : Cell → ℤ) (place : ℕ) (orders : List Order)
      → ((o : Order) → weight_in o.row asset ≡ pos 0 → f o ≡ pos 0)
      → ((k : ℕ) (o : Order) → k < length orders → g (cell_at asset (place + k) (get_or orders k o)) ≡ f (get_or orders k o))
      → int_sum_by g (column_from place orders asset) ≡ int_sum_by f orders
  column_sum f g place [] nothing same = refl
  column_sum f g place (o ∷ orders) nothing same =
      let rest = column_sum f g (place + 1) orders nothing
      (λ k d inside. let next : place + 1 + k ≡ place + suc k = omega arith in rw next (same (suc k) d (omega (arith, inside)))) in
      let at : place + 0 ≡ place = omega arith in
      let here : g (cell_at asset place o) ≡ f o = rw at at (same 0 o (omega arith)) in
      ⊎_elim
      (λ none.
      let weightless : weight_in o.row asset ≡ pos 0 = omega (arith, ints, eqb-true _ _ none) in
      rw none (omega (arith, ints, nothing o weightless, rest)))
      (λ some. rw some (omega (arith, ints, here, rest)))
      (cases_Bool (eqb (unsigned_abs (weight_in o.row asset)) 0))

  -- a sum of numbers that are never negative, over the column and over the orders
  sum_of_weights : (f : ℤ → ℕ) → f (pos 0) ≡ 0 → (orders : List Order) → sum_by (λ c. f c.weight) (column_of orders asset) ≡ sum_by (λ o. f (weight_in o.row asset)) orders
  sum_of_weights f nothing orders =
      let over = int_sum_by-pos (λ (c : Cell). f c.weight) (column_of orders asset) in
      let all = int_sum_by-pos (λ (o : Order). f (weight_in o.row asset)) orders in
      let same = column_sum (λ o. pos (f (weight_in o.row asset))) (λ c. pos (f c.weight)) 0 orders (λ o none. rw none (ap pos nothing)) (λ k o inside. refl) in
      omega (arith, ints, over, all, same)

  pub spread_is : (orders : List Order) → spread_in (column_of orders asset) ≡ spread orders asset
  spread_is orders = sum_of_weights unsigned_abs refl orders

  pub steepness_is : (orders : List Order) → steepness_in (column_of orders asset) ≡ steepness orders asset
  unfolding steepness_in steepness
  steepness_is orders = ap (λ n. div_ceil n 256) (sum_of_weights (λ w. unsigned_abs w * unsigned_abs w) refl orders)
