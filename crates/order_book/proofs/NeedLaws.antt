-- The laws of what orders reserve together.
use Rattle.std.proofs.Common.{◌≡◌, ℕ, ◌+◌, ◌*◌, ◌≤◌, eqb, List, [], ◌∷◌, ◌++◌, length, ap, subst, ◌∙◌, arith}
use Rattle.std.proofs.lemmas.List.Edits.{length-remove}
use Rattle.std.specs.Prelude.{Contains}
use Rattle.std.proofs.lemmas.Int.{ints}
use Rattle.weight_rows.specs.Rows.{weight_in}
use Rattle.demand_curve.specs.Numbers.{or_zero}
use Rattle.flow_orders.specs.Orders.{Order, remaining_quantity, sold, money_need, unit_need}
use Rattle.flow_orders.specs.Trades.{Trade, trader, trades, staying}
use Rattle.order_book.specs.declared.sums.Need.{Need}
use Rattle.order_book.specs.declared.sums.Need.TheVariants.{Money, Units}
use Rattle.order_book.specs.Needs.{need_for, need_of, needed}
use Rattle.order_book.specs.Sums.{Table, sum_in}
use Rattle.order_book.specs.Kept.{SumsAre}
use Rattle.order_book.specs.Book.{AreLive, without}
use Rattle.order_book.specs.Laws.{NeedsAreSmall, AddedOrdersNeedMore, CancelledOrdersNeedNothing, FilledOrdersNeedLess}
use Rattle.order_book.proofs.BookNeeds.{counted, own_sum_is, needed_money_is, needed_units_is, needed_most, most_needed_fits, most_units_fit, needed-push, needed-remove}
use Rattle.order_book.proofs.Places.{AreLive-remove, remove_is}
use Rattle.order_book.proofs.Standing.{needs_of_staying}

pub needs_are_small : NeedsAreSmall
needs_are_small = record {
  money = λ orders account live. (omega (arith, ints, needed_money_is orders account), omega (arith, ints, needed_money_is orders account, needed_most (Money account) orders live, most_needed_fits (Money account)));
  units = λ orders account asset live. (omega (arith, ints, needed_units_is orders account asset), omega (arith, ints, needed_units_is orders account asset, needed_most (Units account asset) orders live, most_units_fit account asset));
}

pub added_orders_need_more : AddedOrdersNeedMore
added_orders_need_more = record {
  money = λ orders o account.
      omega (arith, ints, needed_money_is orders account, needed_money_is (orders ++ o ∷ []) account, needed-push (Money account) orders o, counted (eqb o.account account) (money_need o));
  units = λ orders o account asset.
      omega (arith, ints, needed_units_is orders account asset, needed_units_is (orders ++ o ∷ []) account asset, needed-push (Units account asset) orders o, counted (eqb o.account account) (unit_need asset o));
}

pub needed-without : (need : Need) (orders : List Order) (o : Order) → AreLive orders → Contains orders o → needed need (without orders o.number) + need_of need o ≡ needed need orders
needed-without need orders o live (place, inside, at) =
    let left = remove_is orders place o.number o live.ascending inside (ap (λ (x : Order). x.number) at) in
    omega (arith, needed-remove need orders place o inside, ap (needed need) left, ap (need_of need) at)

-- what a live order needs is in the sums
pub is_needed : (table : Table) (orders : List Order) (o : Order) (units : ℕ) → AreLive orders → SumsAre table orders → Contains orders o → units ≡ remaining_quantity o
    → (need : Need) → need_for units need o ≤ sum_in table need
is_needed table orders o units live sums there left need =
    omega (arith, sums need, needed-without need orders o live there, ap (λ n. need_for n need o) left)

-- an order is cancelled
module _ (orders : List Order) (o : Order) (number : ℕ) (live : AreLive orders) (there : Contains orders o) (is : o.number ≡ number) where
  pub SumsAre-without : (table new : Table) (units : ℕ) → SumsAre table orders → units ≡ remaining_quantity o → ((need : Need) → sum_in new need + need_for units need o ≡ sum_in table need)
      → SumsAre new (without orders number)
  SumsAre-without table new units sums left lowered need =
      omega (arith, sums need, lowered need, needed-without need orders o live there, ap (λ n. needed need (without orders n)) is, ap (λ n. need_for n need o) left)

  pub length-without : length (without orders number) + 1 ≡ length orders
  length-without =
      let (place, inside, at) = there in
      let left = remove_is orders place number o live.ascending inside (ap (λ (x : Order). x.number) at ∙ is) in
      omega (arith, length-remove orders place inside, ap length left)

  pub AreLive-without : AreLive (without orders number)
  AreLive-without =
      let (place, inside, at) = there in
      subst AreLive (remove_is orders place number o live.ascending inside (ap (λ (x : Order). x.number) at ∙ is)) (AreLive-remove orders place inside live)

pub cancelled_orders_need_nothing : CancelledOrdersNeedNothing
cancelled_orders_need_nothing = record {
  money = λ orders o account live there.
      omega (arith, ints, needed_money_is orders account, needed_money_is (without orders o.number) account, needed-without (Money account) orders o live there, counted (eqb o.account account) (money_need o));
  units = λ orders o account asset live there.
      omega (arith, ints, needed_units_is orders account asset, needed_units_is (without orders o.number) account asset, needed-without (Units account asset) orders o live there, counted (eqb o.account account) (unit_need asset o));
}

pub filled_orders_need_less : FilledOrdersNeedLess
filled_orders_need_less = record {
  money = λ orders rates account count within.
      let ts = trades orders rates in
      omega (arith, ints, needed_money_is orders account, needed_money_is (staying ts) account, needs_of_staying orders rates count within (Money account), own_sum_is trader (λ (t : Trade). or_zero t.order.high * t.traded) account ts);
  units = λ orders rates account asset count within.
      let ts = trades orders rates in
      omega (arith, ints, needed_units_is orders account asset, needed_units_is (staying ts) account asset, needs_of_staying orders rates count within (Units account asset), own_sum_is trader (λ (t : Trade). sold (weight_in t.order.row asset) * t.traded) account ts);
}
