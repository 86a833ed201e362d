-- Filling orders in place: those that stay move to the places of those that are filled to their cap.
use Rattle.std.proofs.Common.{◌≡◌, ℕ, zero, suc, ◌+◌, ◌<◌, ◌≤◌, Bool, true, false, cond, List, [], ◌∷◌, take, drop, set, length, get_or, filter, refl, ap, sym, subst, ◌∙◌, arith}
use Rattle.std.specs.Prelude.{All}
use Rattle.std.specs.List.{SwappedAt}
use Rattle.std.proofs.lemmas.Bool.{lt-ltb, le-ltb}
use Rattle.std.proofs.lemmas.List.{length-set, take-set, take-set-le, drop-set, drop-set-lt, drop-drop, drop_more, get_or-set_same}
use Rattle.std.proofs.lemmas.List.Filters.{FiltersInPlace, FiltersInPlace-more_no, FiltersInPlace-more_swap, FiltersInPlace-all}
use Rattle.flow_orders.specs.Orders.{Order, IsOrder, terms_of}
use Rattle.flow_orders.specs.Trades.{Trade, trades, after_fill, staying}
use Rattle.flow_orders.proofs.TradeFacts.{before_fills, after_fills, is_live}
use Rattle.order_book.proofs.Traded.{length-trades, get_or-trades}

-- the orders, of which the first i are filled
pub filled_to : ℕ → List Trade → List Order
filled_to zero ts = before_fills ts
filled_to (suc i) [] = []
filled_to (suc i) (t ∷ ts) = after_fill t ∷ filled_to i ts

filled-all : (ts : List Trade) (i : ℕ) → length ts ≤ i → filled_to i ts ≡ after_fills ts
unfolding filled_to
filled-all [] zero all = refl
filled-all [] (suc i) all = refl
filled-all (t ∷ ts) zero all = absurd (omega (arith, all))
filled-all (t ∷ ts) (suc i) all = ap (λ l. after_fill t ∷ l) (filled-all ts i (omega (arith, all)))

length-filled : (i : ℕ) (ts : List Trade) → length (filled_to i ts) ≡ length ts
unfolding filled_to
length-filled zero [] = refl
length-filled zero (t ∷ ts) = omega (arith, length-filled zero ts)
length-filled (suc i) [] = refl
length-filled (suc i) (t ∷ ts) = omega (arith, length-filled i ts)

-- order i isn't filled yet
filled-at : (i : ℕ) (ts : List Trade) (t : Trade) (o : Order) → i < length ts → get_or (filled_to i ts) i o ≡ (get_or ts i t).order
unfolding filled_to
filled-at zero [] t o inside = absurd (omega (arith, inside))
filled-at zero (u ∷ ts) t o inside = refl
filled-at (suc i) [] t o inside = absurd (omega (arith, inside))
filled-at (suc i) (u ∷ ts) t o inside = filled-at i ts t o (omega (arith, inside))

-- one more order is filled
filled-more : (i : ℕ) (ts : List Trade) (t : Trade) → i < length ts → filled_to (suc i) ts ≡ set (filled_to i ts) i (after_fill (get_or ts i t))
unfolding filled_to
filled-more zero [] t inside = absurd (omega (arith, inside))
filled-more zero (u ∷ ts) t inside = refl
filled-more (suc i) [] t inside = absurd (omega (arith, inside))
filled-more (suc i) (u ∷ ts) t inside = ap (λ l. after_fill u ∷ l) (filled-more i ts t (omega (arith, inside)))

module _ {X : Type 0} (p : X → Bool) (xs ys : List X) (k i : ℕ) (y : X) (before : FiltersInPlace p xs ys k i) (inside : i < length xs) where
  after_next : drop (i + 1) ys ≡ drop (i + 1) xs
  after_next = sym (drop-drop 1 i ys) ∙ ap (drop 1) before.rest ∙ drop-drop 1 i xs

  -- the element that is next changes in both lists
  next_changes : FiltersInPlace p (set xs i y) (set ys i y) k i
  next_changes = record {
    front = take-set-le k ys i y before.behind ∙ before.front ∙ ap (filter p) (sym (take-set xs i y));
    rest = drop-set ys i y (omega (arith, inside, before.long)) ∙ ap (λ l. y ∷ l) after_next ∙ sym (drop-set xs i y inside);
    behind = before.behind;
    within = omega (arith, inside, length-set xs i y);
    long = omega (arith, length-set xs i y, length-set ys i y, before.long);
  }

  -- the element changes in one list, to one that doesn't pass
  next_fails : p y ≡ false → FiltersInPlace p (set xs i y) ys k (i + 1)
  next_fails fails =
      let here : i < length (set ys i y) = omega (arith, inside, before.long, length-set ys i y) in
      let one = FiltersInPlace-more_no {x = y} next_changes here fails (sym (get_or-set_same ys i y y (omega (arith, inside, before.long)))) in
      record {
        front = sym (take-set-le k ys i y before.behind) ∙ one.front;
        rest = sym (drop-set-lt (i + 1) ys i y (omega arith)) ∙ one.rest;
        behind = one.behind;
        within = one.within;
        long = omega (arith, one.long, length-set ys i y);
      }

  -- the element changes in both lists, to one that passes, and is swapped to the place after those that passed before
  next_passes : (zs : List X) → p y ≡ true → SwappedAt (set ys i y) zs k i → FiltersInPlace p (set xs i y) zs (k + 1) (i + 1)
  next_passes zs passes swapped =
      let here : i < length (set ys i y) = omega (arith, inside, before.long, length-set ys i y) in
      FiltersInPlace-more_swap {x = y} next_changes here passes (sym (get_or-set_same ys i y y (omega (arith, inside, before.long)))) swapped

-- after the first trades, those of their orders that stay come first, filled, and later orders are as they were
pub record IsFilledTo (ts : List Trade) (items : List Order) (kept place : ℕ) : Type 0 where
  pub filled : FiltersInPlace is_live (filled_to place ts) items kept place

pub IsFilledTo-none : (ts : List Trade) (items : List Order) → items ≡ before_fills ts → IsFilledTo ts items 0 0
unfolding filled_to
IsFilledTo-none ts items same = record { filled = record { front = refl; rest = same; behind = omega arith; within = omega arith; long = ap length same } }

module _ (ts : List Trade) (items : List Order) (kept place : ℕ) (t : Trade) (before : IsFilledTo ts items kept place) (inside : place < length ts) (at : get_or ts place t ≡ t) where
  within : place < length (filled_to place ts)
  within = omega (arith, inside, length-filled place ts)

  next : filled_to (place + 1) ts ≡ set (filled_to place ts) place (after_fill t)
  next =
      let one : place + 1 ≡ suc place = omega arith in
      ap (λ n. filled_to n ts) one ∙ filled-more place ts t inside ∙ ap (λ (u : Trade). set (filled_to place ts) place (after_fill u)) at

  -- the next order is that of the next trade
  pub order_at : (o : Order) → get_or items place o ≡ t.order
  order_at o =
      let there : place < length items = omega (arith, within, before.filled.long) in
      let one = drop_more items place o there in
      let other = drop_more (filled_to place ts) place o within in
      let same = before.filled.rest in
      let heads : get_or items place o ≡ get_or (filled_to place ts) place o = cc in
      heads ∙ filled-at place ts t o inside ∙ ap (λ (u : Trade). u.order) at

  pub IsFilledTo-leaves : is_live (after_fill t) ≡ false → IsFilledTo ts items kept (place + 1)
  IsFilledTo-leaves full =
      record { filled = rw next (next_fails is_live (filled_to place ts) items kept place (after_fill t) before.filled within full) }

  pub IsFilledTo-stays : (new : List Order) → is_live (after_fill t) ≡ true → SwappedAt (set items place (after_fill t)) new kept place → IsFilledTo ts new (kept + 1) (place + 1)
  IsFilledTo-stays new live swapped =
      record { filled = rw next (next_passes is_live (filled_to place ts) items kept place (after_fill t) before.filled within new live swapped) }

pub IsFilledTo-all : (ts : List Trade) (items : List Order) (kept place : ℕ) → IsFilledTo ts items kept place → length ts ≤ place → take kept items ≡ staying ts
IsFilledTo-all ts items kept place before all =
    FiltersInPlace-all before.filled (omega (arith, all, length-filled place ts)) ∙ ap (filter is_live) (filled-all ts place all)

module _ (orders : List Order) (rates : List ℕ) (items : List Order) (kept place : ℕ) (o : Order) (count : length rates ≡ length orders)
    (before : IsFilledTo (trades orders rates) items kept place) (inside : place < length orders) (read : o ≡ get_or items place o) where
  pub inside_trades : place < length (trades orders rates)
  inside_trades = omega (arith, inside, length-trades orders rates count)

  not_filled : o ≡ get_or orders place o
  not_filled =
      let t : Trade = record { order = get_or orders place o; traded = get_or rates place 0 } in
      read ∙ order_at (trades orders rates) items kept place t before inside_trades (get_or-trades orders rates place t o 0 count inside) o

  -- the order at this place is that of the trade at this place
  pub trade_at : let t : Trade = record { order = o; traded = get_or rates place 0 } in get_or (trades orders rates) place t ≡ t
  trade_at =
      get_or-trades orders rates place (record { order = o; traded = get_or rates place 0 }) o 0 count inside
      ∙ ap (λ (e : Order). record { order = e; traded = get_or rates place 0 }) (sym not_filled)

  -- the trade's rate is within its order's batch maximum
  pub within_room : All (λ t. t.traded ≤ (terms_of t.order).room) (trades orders rates) → get_or rates place 0 ≤ (terms_of o).room
  within_room all =
      let t : Trade = record { order = o; traded = get_or rates place 0 } in
      subst (λ (u : Trade). u.traded ≤ (terms_of u.order).room) trade_at (all place t inside_trades)

-- an order that doesn't reach its cap stays, filled
pub fill_stays : (t : Trade) (full : Bool) (after : Order) → full ≡ false → after ≡ cond full t.order (after_fill t) → IsOrder after → (after ≡ after_fill t) × (is_live (after_fill t) ≡ true)
fill_stays t true after short filled is = absurd cc
fill_stays t false after short filled is = (filled, lt-ltb (after_fill t).filled (after_fill t).cap (subst (λ (o : Order). o.filled < o.cap) filled is.left))

-- an order that reaches its cap leaves, as it was
pub fill_leaves : (t : Trade) (full : Bool) (after : Order) → full ≡ true → after ≡ cond full t.order (after_fill t) → (full ≡ true → t.order.filled + t.traded ≡ t.order.cap)
    → (after ≡ t.order) × (is_live (after_fill t) ≡ false)
fill_leaves t true after reached filled at_cap = (filled, le-ltb (after_fill t).filled (after_fill t).cap (omega (arith, at_cap refl)))
fill_leaves t false after reached filled at_cap = absurd cc
