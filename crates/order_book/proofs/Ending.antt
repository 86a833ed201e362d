-- A pass over the orders of a book, from which those leave whose last batch was held.
use Rattle.std.proofs.Common.{◌≡◌, ◌≢◌, ℕ, ◌+◌, ◌<◌, ◌≤◌, Bool, not, eqb, List, [], ◌∷◌, ◌++◌, take, drop, length, get_or, refl, sym, ap, ◌∙◌, arith}
use Rattle.std.proofs.lemmas.Bool.{eq-eqb, ne_eqb}
use Rattle.std.proofs.lemmas.List.{take_all, take_more, drop_all, drop_more}
use Rattle.std.proofs.lemmas.List.Elements.{All-filter, filter-append}
use Rattle.std.proofs.lemmas.List.Kept.{AllPairs-filter}
use Rattle.std.proofs.lemmas.List.Sums.{sum_by-cons, length-filter, count_by-le-length}
use Rattle.indexmap.specs.IndexMap.{spare}
use Rattle.flow_orders.specs.Orders.{Order, IsOrder, remaining_quantity}
use Rattle.flow_orders.specs.Trades.{going_on}
use Rattle.order_book.specs.declared.sums.Need.{Need}
use Rattle.order_book.specs.Sums.{Table, sum_in}
use Rattle.order_book.specs.Needs.{need_for, need_of, needed}
use Rattle.order_book.specs.Book.{AreLive}
use Rattle.order_book.specs.Kept.{SumsAre}
use Rattle.order_book.proofs.BookNeeds.{needed-push}

-- this batch isn't the order's last one
abbrev others : ℕ → Order → Bool
others batch o = not (eqb o.last batch)

-- after the first i orders, the sums are those of the ones among them that stay, and of all later ones
pub record IsEndedTo (batch : ℕ) (orders : List Order) (old new : Table) (i : ℕ) : Type 0 where
  pub sums : (need : Need) → sum_in new need ≡ needed need (going_on batch (take i orders)) + needed need (drop i orders)
  pub room : spare old ≤ spare new

pub IsEndedTo-none : (batch : ℕ) (orders : List Order) (table : Table) → SumsAre table orders → IsEndedTo batch orders table table 0
IsEndedTo-none batch orders table sums = record { sums = λ need. omega (arith, sums need); room = omega arith }

pub IsEndedTo-all : (batch : ℕ) (orders : List Order) (old new : Table) (i : ℕ) → length orders ≤ i → IsEndedTo batch orders old new i
    → (need : Need) → sum_in new need ≡ needed need (going_on batch orders)
IsEndedTo-all batch orders old new i all before need =
    let none = ap (needed need) (drop_all i orders all) in
    let each = ap (λ l. needed need (going_on batch l)) (take_all i orders all) in
    omega (arith, before.sums need, none, each)

module _ (batch : ℕ) (orders : List Order) (old mid : Table) (i : ℕ) (o : Order) (inside : i < length orders) (at : o ≡ get_or orders i o) (before : IsEndedTo batch orders old mid i) where
  -- from i on, orders need what order i needs and what the later ones need
  parts : (need : Need) → needed need (drop i orders) ≡ need_of need o + needed need (drop (i + 1) orders)
  parts need =
      ap (needed need) (drop_more orders i o inside) ∙ sum_by-cons (need_of need) (get_or orders i o) (drop (i + 1) orders)
      ∙ ap (λ (x : Order). need_of need x + needed need (drop (i + 1) orders)) (sym at)

  taken : going_on batch (take (i + 1) orders) ≡ going_on batch (take i orders) ++ going_on batch (o ∷ [])
  taken =
      ap (going_on batch) (take_more orders i o inside) ∙ filter-append (others batch) (take i orders) (get_or orders i o ∷ [])
      ∙ ap (λ (x : Order). going_on batch (take i orders) ++ going_on batch (x ∷ [])) (sym at)

  -- what the order needs is in the sums
  pub is_there : (units : ℕ) (need : Need) → units ≡ remaining_quantity o → need_for units need o ≤ sum_in mid need
  is_there units need left = omega (arith, before.sums need, parts need, ap (λ n. need_for n need o) left)

  -- the order stays
  pub IsEndedTo-stays : (j : ℕ) → j ≡ i + 1 → o.last ≢ batch → IsEndedTo batch orders old mid j
  IsEndedTo-stays j next other = rw next (record { sums = sums; room = before.room })
    where
      kept : going_on batch (o ∷ []) ≡ o ∷ []
      kept = rw (ne_eqb o.last batch other) refl

      sums : (need : Need) → sum_in mid need ≡ needed need (going_on batch (take (i + 1) orders)) + needed need (drop (i + 1) orders)
      sums need =
          let more = ap (needed need) (taken ∙ ap (λ l. going_on batch (take i orders) ++ l) kept) ∙ needed-push need (going_on batch (take i orders)) o in
          omega (arith, before.sums need, parts need, more)

  -- the order leaves
  pub IsEndedTo-leaves : (new : Table) (units j : ℕ) → j ≡ i + 1 → o.last ≡ batch → units ≡ remaining_quantity o → ((need : Need) → sum_in new need + need_for units need o ≡ sum_in mid need) → spare mid ≤ spare new
      → IsEndedTo batch orders old new j
  IsEndedTo-leaves new units j next same left lowered room = rw next (record { sums = sums; room = omega (arith, before.room, room) })
    where
      gone : going_on batch (take i orders) ++ going_on batch (o ∷ []) ≡ going_on batch (take i orders) ++ []
      gone = ap (λ l. going_on batch (take i orders) ++ l) (rw (eq-eqb o.last batch same) refl)

      sums : (need : Need) → sum_in new need ≡ needed need (going_on batch (take (i + 1) orders)) + needed need (drop (i + 1) orders)
      sums need =
          let less = ap (needed need) (taken ∙ gone) ∙ needed-nil need (going_on batch (take i orders)) in
          omega (arith, before.sums need, parts need, less, lowered need, ap (λ n. need_for n need o) left)
        where
          needed-nil : (need : Need) (xs : List Order) → needed need (xs ++ []) ≡ needed need xs
          needed-nil need [] = refl
          needed-nil need (x ∷ xs) = omega (arith, needed-nil need xs, sum_by-cons (need_of need) x (xs ++ []), sum_by-cons (need_of need) x xs)

-- the orders that stay after a batch are live orders
pub AreLive-going_on : (batch : ℕ) (orders : List Order) → AreLive orders → AreLive (going_on batch orders)
AreLive-going_on batch orders live = record {
  each = All-filter (others batch) IsOrder orders live.each;
  ascending = AllPairs-filter (λ (o : Order) (later : Order). o.number < later.number) (others batch) orders live.ascending;
  few = omega (arith, length-filter (others batch) orders, count_by-le-length (others batch) orders, live.few);
}
