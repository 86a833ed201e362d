-- Orders by their places: one more at the end, or one less.
use Rattle.std.proofs.Common.{◌≡◌, ◌≢◌, ℕ, zero, suc, ◌<◌, Bool, not, filter, List, [], ◌∷◌, ◌++◌, length, get_or, refl, ap, arith}
use Rattle.std.specs.Prelude.{All, AllPairs, ◌==◌}
use Rattle.std.specs.List.{remove}
use Rattle.std.proofs.lemmas.Bool.{eq-eqb, ne_eqb}
use Rattle.std.proofs.lemmas.List.{length_push}
use Rattle.std.proofs.lemmas.List.Edits.{length-remove}
use Rattle.std.proofs.lemmas.List.Elements.{All-push, All-append, All-take, All-drop}
use Rattle.std.proofs.lemmas.List.Quantifiers.{all_pairs_push, all_pairs_remove}
use Rattle.flow_orders.specs.Orders.{Order, IsOrder, most_orders}
use Rattle.order_book.specs.Book.{AreLive, without}

-- live orders and one of a higher number at the end are live orders
pub AreLive-push : (orders : List Order) (o : Order) → AreLive orders → IsOrder o → length orders < most_orders → All (λ x. x.number < o.number) orders → AreLive (orders ++ o ∷ [])
AreLive-push orders o live is few above = record {
  each = All-push IsOrder orders o live.each is;
  ascending = all_pairs_push (λ (x : Order) (later : Order). x.number < later.number) orders o live.ascending above;
  few = omega (arith, length_push orders o, few);
}

-- live orders without the one at a place are live orders
pub AreLive-remove : (orders : List Order) (place : ℕ) → place < length orders → AreLive orders → AreLive (remove orders place)
AreLive-remove orders place inside live = record {
  each = All-append IsOrder _ _ (All-take IsOrder place orders live.each) (All-drop IsOrder (suc place) orders live.each);
  ascending = all_pairs_remove (λ (x : Order) (later : Order). x.number < later.number) orders place inside live.ascending;
  few = omega (arith, length-remove orders place inside, live.few);
}

abbrev Ascend : List Order → Type 0
Ascend orders = AllPairs (λ x later. x.number < later.number) orders

abbrev others : ℕ → Order → Bool
others number x = not (x.number == number)

-- if no order has the number, all stay
all_stay : (orders : List Order) (number : ℕ) → All (λ x. x.number ≢ number) orders → orders ≡ filter (others number) orders
all_stay [] number none = refl
all_stay (x ∷ orders) number none =
    let rest = all_stay orders number (λ k d inside. none (suc k) d (omega (arith, inside))) in
    rw (ne_eqb x.number number (none 0 x (omega arith))) (ap (λ l. x ∷ l) rest)

-- from ascending orders, taking out by place is taking out by number
pub remove_is : (orders : List Order) (place number : ℕ) (d : Order) → AllPairs (λ x later. x.number < later.number) orders → place < length orders → (get_or orders place d).number ≡ number
    → remove orders place ≡ without orders number
remove_is [] place number d ascend inside at = absurd (omega (arith, inside))
remove_is (x ∷ orders) zero number d ascend inside at =
    let rest = all_stay orders number (λ k e within same. let later : x.number < (get_or orders k e).number = ascend 0 (suc k) e (omega arith) (omega (arith, within)) in omega (arith, later, same, at)) in
    rw (eq-eqb x.number number at) rest
remove_is (x ∷ orders) (suc place) number d ascend inside at =
    let within : place < length orders = omega (arith, inside) in
    let below : x.number < (get_or orders place d).number = ascend 0 (suc place) d (omega arith) inside in
    let rest = remove_is orders place number d (λ i j e before last. ascend (suc i) (suc j) e (omega (arith, before)) (omega (arith, last))) within at in
    rw (ne_eqb x.number number (λ same. omega (arith, below, same, at))) (ap (λ l. x ∷ l) rest)
