-- The columns of all assets grow order by order, and leg by leg.
use Rattle.std.proofs.Common.{◌≡◌, ◌≢◌, ⊎_elim, ℕ, suc, ◌+◌, ◌<◌, ◌≤◌, pos, false, eqb, List, [], ◌∷◌, ◌++◌, length, map, set, take, get_or, refl, ap, sym, ◌∙◌, append_assoc, append-nil, length-take, arith}
use Rattle.std.specs.Prelude.{if◌then◌else◌, unsigned_abs, All, AllPairs}
use Rattle.std.specs.List.{range_with_len}
use Rattle.std.proofs.lemmas.Bool.{cases_Bool, ne_eqb, eq-eqb}
use Rattle.std.proofs.lemmas.Bool.Decides.{eqb_tells}
use Rattle.std.proofs.lemmas.List.{ext_get_or, get_or-set_same, get_or-set_other, length-set, length-map}
use Rattle.std.proofs.lemmas.List.FromFn.{length-map-range_with_len, get_or-map-range_with_len, map-range_with_len_more}
use Rattle.std.proofs.lemmas.List.Kept.{AllPairs-from_increasing}
use Rattle.weight_rows.specs.declared.entries.Entry.{Entry}
use Rattle.weight_rows.specs.Rows.{IsWeightVector, IsLawfulWeight, assets_of, weight_in}
use Rattle.flow_orders.specs.Orders.{Order}
use Rattle.excess_bounds.specs.declared.columns.Cell.{Cell}
use Rattle.excess_bounds.specs.Columns.{column_of}
use Rattle.excess_bounds.specs.Private.{listed}
use Rattle.excess_bounds.proofs.ColumnSums.{cells_more, column_length}

-- lists over a range are equal if their members are
map_alike : {X : Type 0} (f g : ℕ → X) (n : ℕ) → ((a : ℕ) → a < n → f a ≡ g a) → map f (range_with_len 0 n) ≡ map g (range_with_len 0 n)
map_alike f g n same =
    let count = length-map-range_with_len f 0 n in
    ext_get_or (f 0) (map f (range_with_len 0 n)) (map g (range_with_len 0 n)) (count ∙ sym (length-map-range_with_len g 0 n))
    (λ i inside.
    let within : i < n = omega (arith, inside, count) in
    get_or-map-range_with_len f 0 n i i (f 0) within (omega arith) ∙ same i within ∙ sym (get_or-map-range_with_len g 0 n i i (f 0) within (omega arith)))

-- one member of a list over a range is another
set_alike : {X : Type 0} (f g : ℕ → X) (n i : ℕ) (x : X) → i < n → x ≡ g i → ((a : ℕ) → a < n → a ≢ i → f a ≡ g a)
    → set (map f (range_with_len 0 n)) i x ≡ map g (range_with_len 0 n)
set_alike f g n i x there here others =
    let fs = map f (range_with_len 0 n) in
    let count = length-map-range_with_len f 0 n in
    let same : length (set fs i x) ≡ length fs = length-set fs i x in
    ext_get_or x (set fs i x) (map g (range_with_len 0 n)) (same ∙ count ∙ sym (length-map-range_with_len g 0 n))
    (λ a inside.
    let within : a < n = omega (arith, inside, same, count) in
    let right = get_or-map-range_with_len g 0 n a a x within (omega arith) in
    ⊎_elim
    (λ is.
    rw is.1 (get_or-set_same fs i x x (omega (arith, there, count)) ∙ here) ∙ sym right)
    (λ other.
    get_or-set_other fs i a x x other.1 ∙ get_or-map-range_with_len f 0 n a a x within (omega arith) ∙ others a within other.1 ∙ sym right)
    (eqb_tells a i))

module _ (place : ℕ) where
  -- the cells of an asset in a weight vector
  abbrev cells_in : List Entry → ℕ → List Cell
  cells_in [] asset = []
  cells_in (e ∷ row) asset = if eqb e.asset asset then record { place = place; weight = e.weight } ∷ cells_in row asset else cells_in row asset

  -- an order adds its cells of each asset to the column of the asset
  listed_is : (row : List Entry) (f : ℕ → List Cell) (n : ℕ) → All (λ (e : Entry). e.asset < n) row
      → listed place row (map f (range_with_len 0 n)) ≡ map (λ a. f a ++ cells_in row a) (range_with_len 0 n)
  listed_is [] f n there = map_alike f (λ a. f a ++ []) n (λ a inside. sym (append-nil (f a)))
  listed_is (e ∷ row) f n there =
      let c : Cell = record { place = place; weight = e.weight } in
      let g : ℕ → List Cell = λ a. f a ++ (if eqb e.asset a then c ∷ [] else []) in
      let fs = map f (range_with_len 0 n) in
      let inside : e.asset < n = there 0 e (omega arith) in
      let now : get_or fs e.asset [] ≡ f e.asset = get_or-map-range_with_len f 0 n e.asset e.asset [] inside (omega arith) in
      let one : set fs e.asset (f e.asset ++ c ∷ []) ≡ map g (range_with_len 0 n) =
      set_alike f g n e.asset (f e.asset ++ c ∷ []) inside (rw (eq-eqb e.asset e.asset refl) refl)
      (λ a within other. rw (ne_eqb e.asset a (λ same. other (sym same))) (sym (append-nil (f a)))) in
      let rest = listed_is row g n (λ k d within. there (suc k) d (omega (arith, within))) in
      let alike = map_alike (λ a. g a ++ cells_in row a) (λ a. f a ++ cells_in (e ∷ row) a) n
      (λ a within.
      ⊎_elim
      (λ named. rw named (append_assoc (f a) (c ∷ []) (cells_in row a)))
      (λ other. rw other (ap (λ cells. cells ++ cells_in row a) (append-nil (f a))))
      (cases_Bool (eqb e.asset a))) in
      rw now (rw one (rest ∙ alike))

  -- no leg names this asset
  none_in : (row : List Entry) (asset : ℕ) → ((k d : ℕ) → k < length row → get_or (assets_of row) k d ≢ asset) → (cells_in row asset ≡ []) × (weight_in row asset ≡ pos 0)
  unfolding weight_in
  none_in [] asset absent = (refl, refl)
  none_in (e ∷ row) asset absent =
      let other : e.asset ≢ asset = absent 0 0 (omega arith) in
      rw (ne_eqb e.asset asset other) (none_in row asset (λ k d within. absent (suc k) d (omega (arith, within))))

  -- legs of ascending assets have one cell for each asset that they name
  ascending_cells : (row : List Entry) (asset : ℕ) → AllPairs (λ (a : ℕ) (b : ℕ). a < b) (assets_of row) → All (λ (e : Entry). IsLawfulWeight e.weight) row
      → cells_in row asset ≡ (if eqb (unsigned_abs (weight_in row asset)) 0 then [] else record { place = place; weight = weight_in row asset } ∷ [])
  unfolding weight_in
  ascending_cells [] asset ascend weights = refl
  ascending_cells (e ∷ row) asset ascend weights =
      let rest = ascending_cells row asset (λ i j d before within. ascend (suc i) (suc j) d (omega (arith, before)) (omega (arith, within))) (λ k d within. weights (suc k) d (omega (arith, within))) in
      ⊎_elim
      (λ here.
      let none = none_in row asset (λ k d within same.
      let later : e.asset < get_or (assets_of row) k d = ascend 0 (suc k) d (omega arith) (omega (arith, within, length-map row (λ (e : Entry). e.asset))) in
      omega (arith, later, same, here.1)) in
      let some : eqb (unsigned_abs e.weight) 0 ≡ false = ne_eqb _ _ (λ zero. omega (arith, zero, (weights 0 e (omega arith)).0)) in
      rw (here.0, none.0, some) refl)
      (λ other. rw other.0 rest)
      (eqb_tells e.asset asset)

-- the columns of the first i orders and of one more
pub columns_more : (orders : List Order) (i n : ℕ) (o : Order) (columns next : List (List Cell)) → i < length orders → o ≡ get_or orders i o
    → IsWeightVector o.row → All (λ (e : Entry). e.asset < n) o.row
    → columns ≡ map (column_of (take i orders)) (range_with_len 0 n) → next ≡ listed i o.row columns → next ≡ map (column_of (take (i + 1) orders)) (range_with_len 0 n)
columns_more orders i n o columns next within here lawful there before more =
    more ∙ ap (listed i o.row) before ∙ listed_is i o.row (column_of (take i orders)) n there
    ∙ map_alike (λ a. column_of (take i orders) a ++ cells_in i o.row a) (column_of (take (i + 1) orders)) n
    (λ a inside.
    let found = ascending_cells i o.row a (AllPairs-from_increasing (assets_of o.row) lawful.ascending) lawful.weights in
    cells_more a orders i o (column_of (take i orders) a) (cells_in i o.row a) (column_of (take i orders) a ++ cells_in i o.row a) within here refl found refl)

-- columns of the first i orders have at most i cells
pub columns_short : (orders : List Order) (i n : ℕ) (columns : List (List Cell)) → columns ≡ map (column_of (take i orders)) (range_with_len 0 n) → All (λ (c : List Cell). length c ≤ i) columns
columns_short orders i n columns is =
    rw is
    (λ k d inside.
    let within : k < n = omega (arith, inside, length-map-range_with_len (column_of (take i orders)) 0 n) in
    rw (get_or-map-range_with_len (column_of (take i orders)) 0 n k k d within (omega arith)) (omega (arith, column_length k 0 (take i orders), length-take i orders)))

-- empty columns of n assets and of one more
pub none_more : (n : ℕ) (column : List Cell) (columns next : List (List Cell)) → columns ≡ map (column_of []) (range_with_len 0 n) → column ≡ [] → next ≡ columns ++ column ∷ []
    → next ≡ map (column_of []) (range_with_len 0 (n + 1))
none_more n column columns next before is more = more ∙ rw (before, is) (sym (map-range_with_len_more (column_of []) 0 n n (omega arith)))
