use Rattle.std.proofs.Common.{◌≡◌, ◌≤◌, length, ap, ◌∙◌, arith}
use Rattle.indexmap.specs.IndexMap.{spare}
use Rattle.order_book.specs.Book.{Book, AreLive}
use Rattle.order_book.specs.Gaps.{live_in}
use Rattle.order_book.specs.Kept.{listed}
use Rattle.flow_orders.specs.Trades.{going_on}
use Rattle.order_book.proofs.Ending.{AreLive-going_on}
use Rattle.order_book.proofs.LiveOrders.{all_live, AreGaps-live}
use Rattle.order_book.proofs.Room.{room_kept}
use Rattle.order_book.proofs.book.Book.end.Goals as goal

is : (c : goal.After-end_orders) → c.end_orders.new.orders.items ≡ going_on c.args.batch (listed c.self.inside)
is c = c.end_orders.ensures.orders ∙ ap (going_on c.args.batch) c.close_gaps.ensures.orders

live : (c : goal.After-end_orders) → AreLive c.end_orders.new.orders.items
live c = rw (is c) (AreLive-going_on c.args.batch (listed c.self.inside) c.self.invariant.live)

same : (c : goal.After-end_orders) → live_in c.close_gaps.new.gaps c.end_orders.new.orders.items ≡ c.end_orders.new.orders.items
same c = all_live c.close_gaps.new.gaps c.end_orders.new.orders.items c.close_gaps.ensures.closed

shorter : (c : goal.After-end_orders) → length (live_in c.close_gaps.new.gaps c.end_orders.new.orders.items) ≤ length (listed c.self.inside)
shorter c = omega (arith, ap length (same c), c.end_orders.ensures.len, c.end_orders.new.orders.ok.0, c.close_gaps.new.slots.ok.0, ap length c.close_gaps.ensures.orders)

pub invariant_of-self : goal.invariant_of-self
invariant_of-self c = record {
  gaps = AreGaps-live c.end_orders.new.orders.items c.close_gaps.new.gaps c.close_gaps.ensures.closed (live c);
  live = rw (same c) (live c);
  enough = omega (arith, shorter c, c.self.invariant.enough, c.close_gaps.ensures.room);
  sums = λ need. rw (same c, c.end_orders.ensures.orders, ← c.deref.ensures.value) (c.lower_ended.ensures.sums need);
}

pub returns-clause-live : goal.returns-clause-live
returns-clause-live c = rw (same c) (live c)

pub returns-clause-orders : goal.returns-clause-orders
returns-clause-orders c = same c ∙ is c ∙ ap (going_on c.args.batch) (ap (λ (b : Book). b.orders) c.self.view_is)

pub returns-clause-room : goal.returns-clause-room
returns-clause-room c =
    rw (← c.self.view_is) (room_kept _ _ (spare c.self.inside.sums.table) _ _ (spare c.lower_ended.new.sums.table)
    (omega (arith, c.close_gaps.ensures.len, c.close_gaps.ensures.capacity, c.end_orders.ensures.len, c.end_orders.ensures.capacity))
    (omega (arith, shorter c, c.close_gaps.ensures.room)) c.lower_ended.ensures.room)
