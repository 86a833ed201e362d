-- The sums of a book when an order is added or leaves.
use Rattle.std.proofs.Common.{◌≡◌, ℕ, ◌+◌, ◌^◌, ◌<◌, ◌≤◌, List, [], ◌∷◌, ◌++◌, length, get_or, sym, ap, subst, ⊎_elim, ◌∙◌, arith}
use Rattle.std.specs.Prelude.{All, slice_index_or}
use Rattle.std.specs.List.{remove}
use Rattle.std.proofs.lemmas.Bool.{cases_lt}
use Rattle.std.proofs.lemmas.List.{get_or_default}
use Rattle.flow_orders.specs.Orders.{Order, IsOrder, remaining_quantity, terms_of}
use Rattle.flow_orders.specs.Trades.{trades, staying}
use Rattle.flow_orders.proofs.TradeFacts.{after_fills, before-trades}
use Rattle.order_book.specs.declared.sums.Need.{Need}
use Rattle.order_book.specs.Sums.{Table, sum_in}
use Rattle.order_book.specs.Needs.{need_for, need_of, needed, needed_for}
use Rattle.order_book.specs.Book.{AreLive, HasOrder, IsPlaceOf}
use Rattle.order_book.specs.Kept.{SumsAre}
use Rattle.order_book.proofs.BookNeeds.{needed_most, most_needed_fits, need_most, most_for_fits, needed-push, needed-remove}
use Rattle.order_book.proofs.Traded.{needed-after, needed-live, AreLive-staying}

-- the sums fit with what one more order needs
pub one_more_fits : (table : Table) (orders : List Order) (o : Order) (units : ℕ) (need : Need) → AreLive orders → SumsAre table orders → IsOrder o → units ≡ remaining_quantity o
    → sum_in table need + need_for units need o < 2 ^ 128
one_more_fits table orders o units need live sums is left =
    omega (arith, sums need, needed_most need orders live, most_needed_fits need, ap (λ n. need_for n need o) left, need_most need o is, most_for_fits need)

-- the sums after an order is added at the end
pub SumsAre-push : (table new : Table) (orders : List Order) (o : Order) (units : ℕ) → SumsAre table orders → units ≡ remaining_quantity o
    → ((need : Need) → sum_in new need ≡ sum_in table need + need_for units need o) → SumsAre new (orders ++ o ∷ [])
SumsAre-push table new orders o units sums left raised need =
    omega (arith, sums need, raised need, ap (λ n. need_for n need o) left, needed-push need orders o)

-- the sums after the order at a place leaves
pub SumsAre-remove : (table new : Table) (orders : List Order) (o : Order) (place units : ℕ) → SumsAre table orders → place < length orders → o ≡ get_or orders place o → units ≡ remaining_quantity o
    → ((need : Need) → sum_in new need + need_for units need o ≡ sum_in table need) → SumsAre new (remove orders place)
SumsAre-remove table new orders o place units sums inside at left lowered need =
    omega (arith, sums need, lowered need, ap (λ n. need_for n need o) left, needed-remove need orders place o inside, ap (need_of need) at)

-- only one order has the number
pub one_of_number : (orders : List Order) (account number place : ℕ) (o : Order) → AreLive orders → IsPlaceOf orders number place → o ≡ get_or orders place o
    → HasOrder orders account number → o.account ≡ account
one_of_number orders account number place o live is_place at has =
    let k = has.live.0 in
    let is : get_or orders k has.order ≡ has.order = has.live.2 in
    let number_at : (get_or orders k has.order).number ≡ number = ap (λ (x : Order). x.number) is ∙ has.number_is in
    ⊎_elim
    (λ before. let less : (get_or orders k has.order).number < (get_or orders place has.order).number = live.ascending k place has.order before is_place.within in absurd (omega (arith, less, number_at, is_place.found has.order)))
    (λ other.
    ⊎_elim
    (λ after. let less : (get_or orders place has.order).number < (get_or orders k has.order).number = live.ascending place k has.order after has.live.1 in absurd (omega (arith, less, number_at, is_place.found has.order)))
    (λ same.
    let one : k ≡ place = omega (arith, other, same) in
    let here : get_or orders place o ≡ has.order = get_or_default orders place o has.order is_place.within ∙ ap (λ i. get_or orders i has.order) (sym one) ∙ is in
    ap (λ (x : Order). x.account) (at ∙ here) ∙ has.account_is)
    (cases_lt place k))
    (cases_lt k place)

-- ---- a batch
module _ (orders : List Order) (rates : List ℕ) (count : length rates ≡ length orders) (within : All (λ t. t.traded ≤ remaining_quantity t.order) (trades orders rates)) where
  -- all orders need what those that stay need, and what was needed for the trades
  pub needs_of_staying : (need : Need) → needed need orders ≡ needed need (staying (trades orders rates)) + needed_for need (trades orders rates)
  needs_of_staying need =
      let all = ap (needed need) (sym (before-trades orders rates count)) ∙ needed-after need (trades orders rates) within in
      omega (arith, all, needed-live need (after_fills (trades orders rates)))

  -- what is needed for the trades is in the sums
  pub traded_is_there : (table : Table) (need : Need) → SumsAre table orders → needed_for need (trades orders rates) ≤ sum_in table need
  traded_is_there table need sums = omega (arith, sums need, needs_of_staying need)

  -- lowered by that, the sums are those of the orders that stay
  pub SumsAre-staying : (table new : Table) → SumsAre table orders → ((need : Need) → sum_in new need + needed_for need (trades orders rates) ≡ sum_in table need) → SumsAre new (staying (trades orders rates))
  SumsAre-staying table new sums lowered need = omega (arith, sums need, lowered need, needs_of_staying need)

-- rates within the batch maxima are within the remaining quantities
pub within_left : (orders : List Order) (rates : List ℕ) → All (λ t. t.traded ≤ (terms_of t.order).room) (trades orders rates) → All (λ t. t.traded ≤ remaining_quantity t.order) (trades orders rates)
within_left orders rates rooms k d inside =
    let room : (slice_index_or (trades orders rates) k d).traded ≤ (terms_of (slice_index_or (trades orders rates) k d).order).room = rooms k d inside in omega (arith, room)

pub AreLive-batch : (orders : List Order) (rates : List ℕ) → length rates ≡ length orders → AreLive orders → AreLive (staying (trades orders rates))
AreLive-batch orders rates count live = AreLive-staying (trades orders rates) (subst AreLive (sym (before-trades orders rates count)) live)
