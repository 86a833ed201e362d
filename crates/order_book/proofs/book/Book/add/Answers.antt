use Rattle.std.proofs.Common.{◌≡◌, ◌-◌, ◌<◌, ◌≤◌, ◌∙◌, ◌++◌, ◌∷◌, [], ap, sym, subst, arith}
use Rattle.std.specs.Prelude.{All, length}
use Rattle.std.proofs.lemmas.List.{length_push}
use Rattle.flow_orders.specs.Orders.{remaining_quantity, most_orders}
use Rattle.order_book.specs.Book.{Book, AreLive}
use Rattle.order_book.specs.Gaps.{live_in}
use Rattle.order_book.specs.Kept.{listed}
use Rattle.order_book.proofs.LiveOrders.{live_push, AreGaps-push}
use Rattle.order_book.proofs.Places.{AreLive-push}
use Rattle.order_book.proofs.Standing.{one_more_fits, SumsAre-push}
use Rattle.order_book.proofs.book.Book.add.Goals as goal

below : (c : goal.After-push_reserved) → All (λ o. o.number < c.args.order.number) c.close_above.new.slots.items
below c = rw (← c.number.ensures.value) c.close_above.ensures.below

is : (c : goal.After-push_reserved) → live_in c.close_above.new.gaps c.push_reserved.new.self.items ≡ listed c.self.inside ++ c.args.order ∷ []
is c =
    ap (live_in c.close_above.new.gaps) c.push_reserved.ensures.items
    ∙ live_push c.close_above.new.slots.items c.close_above.new.gaps c.args.order c.close_above.ensures.gaps (below c)
    ∙ ap (λ l. l ++ c.args.order ∷ []) c.close_above.ensures.orders

live : (c : goal.After-push_reserved) → AreLive (live_in c.close_above.new.gaps c.push_reserved.new.self.items)
live c =
    rw (is c) (AreLive-push (listed c.self.inside) c.args.order c.self.invariant.live c.cap.ensures.order
    (subst (λ (b : Book). length b.orders < most_orders) (sym c.self.view_is) c.requires.few)
    (subst (λ (b : Book). All (λ o. o.number < c.args.order.number) b.orders) (sym c.self.view_is) c.requires.above))

pub raise_for-requires-clause-fits : goal.raise_for-requires-clause-fits
raise_for-requires-clause-fits c need =
    let left : c.cap.result - c.filled.result ≡ remaining_quantity c.args.order = omega (arith, c.cap.ensures.value, c.filled.ensures.value) in
    one_more_fits c.self.inside.sums.table (listed c.self.inside) c.args.order _ need c.self.invariant.live c.self.invariant.sums c.cap.ensures.order left

pub invariant_of-self : goal.invariant_of-self
invariant_of-self c =
    let left : c.cap.result - c.filled.result ≡ remaining_quantity c.args.order = omega (arith, c.cap.ensures.value, c.filled.ensures.value) in
    record {
      gaps = rw c.push_reserved.ensures.items (AreGaps-push c.close_above.new.slots.items c.close_above.new.gaps c.args.order c.close_above.ensures.gaps (below c) c.cap.ensures.order);
      live = live c;
      enough =
          let room = subst (λ (b : Book). 1 ≤ b.room) (sym c.self.view_is) c.requires.room in
          omega (arith, room, ap length (is c), length_push (listed c.self.inside) c.args.order, c.close_above.ensures.room);
      sums = rw (is c) (SumsAre-push c.self.inside.sums.table c.raise_for.new.self.table (listed c.self.inside) c.args.order _ c.self.invariant.sums left c.raise_for.ensures.raised);
    }

pub returns-clause-live : goal.returns-clause-live
returns-clause-live c = live c

pub returns-clause-orders : goal.returns-clause-orders
returns-clause-orders c = is c ∙ ap (λ (b : Book). b.orders ++ c.args.order ∷ []) c.self.view_is
