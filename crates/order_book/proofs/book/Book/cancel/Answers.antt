use Rattle.std.proofs.Common.{◌≡◌, ◌+◌, ◌-◌, length, ap, arith}
use Rattle.indexmap.specs.IndexMap.{spare}
use Rattle.flow_orders.specs.Orders.{remaining_quantity}
use Rattle.order_book.specs.Book.{AreLive, without}
use Rattle.order_book.specs.Kept.{listed}
use Rattle.order_book.proofs.LiveOrders.{contains_at, number_at}
use Rattle.order_book.proofs.NeedLaws.{is_needed, SumsAre-without, AreLive-without, length-without}
use Rattle.order_book.proofs.Room.{room_kept}
use Rattle.order_book.proofs.book.Book.cancel.Goals as goal

pub lower_for-requires-clause-there : goal.lower_for-requires-clause-there
lower_for-requires-clause-there c =
    let left : c.cap.result - c.filled.result ≡ remaining_quantity c.index-order.result.now = omega (arith, c.cap.ensures.value, c.filled.ensures.value) in
    let there = contains_at c.self.inside.gaps c.deref.result.now c.self.inside.slots.items c.in-Some.place c.index-order.result.now c.deref.ensures.value c.in-Some.ensures.live c.index-order.ensures in
    is_needed c.self.inside.sums.table (listed c.self.inside) c.index-order.result.now _ c.self.invariant.live c.self.invariant.sums there left

live : (c : goal.After-leave_gap) → AreLive (without (listed c.self.inside) c.args.number)
live c =
    let there = contains_at c.self.inside.gaps c.deref.result.now c.self.inside.slots.items c.in-Some.place c.index-order.result.now c.deref.ensures.value c.in-Some.ensures.live c.index-order.ensures in
    let is = number_at c.deref.result.now c.self.inside.slots.items c.args.number c.in-Some.place c.index-order.result.now c.deref.ensures.value c.in-Some.ensures.place c.index-order.ensures in
    AreLive-without (listed c.self.inside) c.index-order.result.now c.args.number c.self.invariant.live there is

fewer : (c : goal.After-leave_gap) → length (without (listed c.self.inside) c.args.number) + 1 ≡ length (listed c.self.inside)
fewer c =
    let there = contains_at c.self.inside.gaps c.deref.result.now c.self.inside.slots.items c.in-Some.place c.index-order.result.now c.deref.ensures.value c.in-Some.ensures.live c.index-order.ensures in
    let is = number_at c.deref.result.now c.self.inside.slots.items c.args.number c.in-Some.place c.index-order.result.now c.deref.ensures.value c.in-Some.ensures.place c.index-order.ensures in
    length-without (listed c.self.inside) c.index-order.result.now c.args.number c.self.invariant.live there is

pub invariant_of-self : goal.invariant_of-self
invariant_of-self c =
    let left : c.cap.result - c.filled.result ≡ remaining_quantity c.index-order.result.now = omega (arith, c.cap.ensures.value, c.filled.ensures.value) in
    let there = contains_at c.self.inside.gaps c.deref.result.now c.self.inside.slots.items c.in-Some.place c.index-order.result.now c.deref.ensures.value c.in-Some.ensures.live c.index-order.ensures in
    let is = number_at c.deref.result.now c.self.inside.slots.items c.args.number c.in-Some.place c.index-order.result.now c.deref.ensures.value c.in-Some.ensures.place c.index-order.ensures in
    record {
      gaps = c.leave_gap.ensures.gaps;
      live = rw c.leave_gap.ensures.orders (live c);
      enough = omega (arith, ap length c.leave_gap.ensures.orders, fewer c, c.self.invariant.enough, c.leave_gap.ensures.room);
      sums = rw c.leave_gap.ensures.orders (SumsAre-without (listed c.self.inside) c.index-order.result.now c.args.number c.self.invariant.live there is c.self.inside.sums.table c.lower_for.new.self.table _ c.self.invariant.sums left c.lower_for.ensures.lowered);
    }

pub returns-in-Some-clause-room : goal.returns-in-Some-clause-room
returns-in-Some-clause-room c =
    rw (← c.self.view_is) (room_kept _ _ (spare c.self.inside.sums.table) _ _ (spare c.lower_for.new.self.table)
    (omega (arith, c.leave_gap.ensures.len, c.leave_gap.ensures.capacity))
    (omega (arith, ap length c.leave_gap.ensures.orders, fewer c, c.self.invariant.enough, c.leave_gap.ensures.room)) c.lower_for.ensures.room)

pub returns-in-Some-clause-live : goal.returns-in-Some-clause-live
returns-in-Some-clause-live c = rw c.leave_gap.ensures.orders (live c)
