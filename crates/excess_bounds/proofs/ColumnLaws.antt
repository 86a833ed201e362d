-- The column of an asset lists the orders that name it, by their places.
use Rattle.std.proofs.Common.{◌≡◌, ◌≢◌, ⊎_elim, ℕ, zero, suc, ◌+◌, ◌<◌, pos, false, List, [], ◌∷◌, eqb, refl, ap, sym, ◌∙◌, arith}
use Rattle.std.specs.Prelude.{unsigned_abs, All, AllPairs}
use Rattle.std.specs.List.{Contains}
use Rattle.std.proofs.lemmas.Int.{ints}
use Rattle.std.proofs.lemmas.Bool.{cases_Bool, eqb-true, eqb-false}
use Rattle.std.proofs.lemmas.List.Elements.{All-cons}
use Rattle.std.proofs.lemmas.List.Kept.{AllPairs-cons}
use Rattle.weight_rows.specs.Rows.{weight_in}
use Rattle.flow_orders.specs.Orders.{Order}
use Rattle.excess_bounds.specs.declared.columns.Cell.{Cell}
use Rattle.excess_bounds.specs.Columns.{column_from}
use Rattle.excess_bounds.specs.Laws.{weight_at, ColumnsListOrders}
use Rattle.excess_bounds.proofs.ColumnSums.{cell_at}

module _ (asset : ℕ) where
  -- the cell is that of one of these orders, of which the first is at `place`
  abbrev StandsFor : ℕ → List Order → Cell → Type 0
  StandsFor place orders c = (k : ℕ) × (c.place ≡ place + k) × (c.weight ≡ weight_at orders asset k) × (c.weight ≢ pos 0)

  some_weight : (o : Order) → eqb (unsigned_abs (weight_in o.row asset)) 0 ≡ false → weight_in o.row asset ≢ pos 0
  some_weight o some none = eqb-false _ _ some (ap unsigned_abs none)

  all_stand : (place : ℕ) (orders : List Order) → All (StandsFor place orders) (column_from place orders asset)
  all_stand place [] = λ k d inside. absurd (omega (arith, inside))
  all_stand place (o ∷ orders) =
      let rest : All (StandsFor place (o ∷ orders)) (column_from (place + 1) orders asset) =
      λ k d inside. let r = all_stand (place + 1) orders k d inside in (suc r.0, omega (arith, r.1), r.2, r.3) in
      ⊎_elim
      (λ none. rw none rest)
      (λ some.
      let here : StandsFor place (o ∷ orders) (cell_at asset place o) = (0, omega arith, refl, some_weight o some) in
      rw some (All-cons (StandsFor place (o ∷ orders)) (cell_at asset place o) (column_from (place + 1) orders asset) here rest))
      (cases_Bool (eqb (unsigned_abs (weight_in o.row asset)) 0))

  -- an order that names the asset has a cell
  has_cell : (place : ℕ) (orders : List Order) (k : ℕ) (c : Cell) → c.place ≡ place + k → c.weight ≡ weight_at orders asset k → c.weight ≢ pos 0
      → Contains (column_from place orders asset) c
  has_cell place [] k c at is named = absurd (named is)
  has_cell place (o ∷ orders) zero c at is named =
      ⊎_elim
      (λ none. absurd (named (is ∙ omega (arith, ints, eqb-true _ _ none))))
      (λ some.
      let here : c.place ≡ place = omega (arith, at) in
      rw some (0, omega arith, rw (← here, ← is) refl))
      (cases_Bool (eqb (unsigned_abs (weight_in o.row asset)) 0))
  has_cell place (o ∷ orders) (suc k) c at is named =
      let rest = has_cell (place + 1) orders k c (omega (arith, at)) is named in
      ⊎_elim
      (λ none. rw none rest)
      (λ some. rw some (suc rest.0, omega (arith, rest.1), rest.2))
      (cases_Bool (eqb (unsigned_abs (weight_in o.row asset)) 0))

  ascends : (place : ℕ) (orders : List Order) → AllPairs (λ (c : Cell) (later : Cell). c.place < later.place) (column_from place orders asset)
  ascends place [] = λ i j d before inside. absurd (omega (arith, inside))
  ascends place (o ∷ orders) =
      let rest = ascends (place + 1) orders in
      let following : All (λ (later : Cell). place < later.place) (column_from (place + 1) orders asset) =
      λ k d inside. let r = all_stand (place + 1) orders k d inside in omega (arith, r.1) in
      ⊎_elim
      (λ none. rw none rest)
      (λ some. rw some (AllPairs-cons (λ (c : Cell) (later : Cell). c.place < later.place) (cell_at asset place o) (column_from (place + 1) orders asset) following rest))
      (cases_Bool (eqb (unsigned_abs (weight_in o.row asset)) 0))

pub columns_list_orders : ColumnsListOrders
columns_list_orders orders asset = record {
  cells = λ c. (
    λ inside.
        let stands = rw inside.2 at (all_stand asset 0 orders inside.0 c inside.1) in
        let at : c.place ≡ stands.0 = omega (arith, stands.1) in
        (stands.2 ∙ ap (weight_at orders asset) (sym at), stands.3),
    λ stands. has_cell asset 0 orders c.place c (omega arith) stands.0 stands.1,
  );
  ascending = ascends asset 0 orders;
}
