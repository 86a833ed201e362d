use Rattle.std.proofs.Common.{◌≡◌, ◌+◌, ◌≤◌, ◌∙◌, List, ap, sym, subst, arith}
use Rattle.std.specs.Prelude.{All, length}
use Rattle.indexmap.specs.IndexMap.{spare}
use Rattle.flow_orders.specs.Orders.{Order, terms_of}
use Rattle.flow_orders.specs.Trades.{trades, staying}
use Rattle.order_book.specs.declared.sums.Need.{Need}
use Rattle.order_book.specs.Sums.{sum_in}
use Rattle.order_book.specs.Needs.{needed_for}
use Rattle.order_book.specs.Book.{Book, AreLive}
use Rattle.order_book.specs.Gaps.{live_in}
use Rattle.order_book.specs.Kept.{listed}
use Rattle.order_book.proofs.LiveOrders.{all_live, AreGaps-live}
use Rattle.order_book.proofs.Standing.{traded_is_there, SumsAre-staying, within_left, AreLive-batch}
use Rattle.order_book.proofs.Room.{room_kept}
use Rattle.order_book.proofs.book.Book.fill.Goals as goal

pub lower_traded-requires-clause-there : goal.lower_traded-requires-clause-there
lower_traded-requires-clause-there c need =
    let count = subst (λ (b : Book). length c.args.rates.now ≡ length b.orders) (sym c.self.view_is) c.requires.count in
    let rooms = subst (λ (b : Book). All (λ t. t.traded ≤ (terms_of t.order).room) (trades b.orders c.args.rates.now)) (sym c.self.view_is) c.requires.within in
    rw (c.deref.ensures.value, c.close_gaps.ensures.orders) (traded_is_there (listed c.self.inside) c.args.rates.now count (within_left _ c.args.rates.now rooms) c.self.inside.sums.table need c.self.invariant.sums)

is : (c : goal.After-fill_orders) → c.fill_orders.new.orders.items ≡ staying (trades (listed c.self.inside) c.args.rates.now)
is c = c.fill_orders.ensures.orders ∙ ap (λ l. staying (trades l c.args.rates.now)) c.close_gaps.ensures.orders

live : (c : goal.After-fill_orders) → AreLive c.fill_orders.new.orders.items
live c =
    let count = subst (λ (b : Book). length c.args.rates.now ≡ length b.orders) (sym c.self.view_is) c.requires.count in
    rw (is c) (AreLive-batch (listed c.self.inside) c.args.rates.now count c.self.invariant.live)

same : (c : goal.After-fill_orders) → live_in c.close_gaps.new.gaps c.fill_orders.new.orders.items ≡ c.fill_orders.new.orders.items
same c = all_live c.close_gaps.new.gaps c.fill_orders.new.orders.items c.close_gaps.ensures.closed

shorter : (c : goal.After-fill_orders) → length (live_in c.close_gaps.new.gaps c.fill_orders.new.orders.items) ≤ length (listed c.self.inside)
shorter c = omega (arith, ap length (same c), c.fill_orders.ensures.len, c.fill_orders.new.orders.ok.0, c.close_gaps.new.slots.ok.0, ap length c.close_gaps.ensures.orders)

pub invariant_of-self : goal.invariant_of-self
invariant_of-self c =
    let orders = listed c.self.inside in
    let count = subst (λ (b : Book). length c.args.rates.now ≡ length b.orders) (sym c.self.view_is) c.requires.count in
    let rooms = subst (λ (b : Book). All (λ t. t.traded ≤ (terms_of t.order).room) (trades b.orders c.args.rates.now)) (sym c.self.view_is) c.requires.within in
    let lowered = subst (λ (xs : List Order). (need : Need) → sum_in c.lower_traded.new.sums.table need + needed_for need (trades xs c.args.rates.now) ≡ sum_in c.self.inside.sums.table need) (c.deref.ensures.value ∙ c.close_gaps.ensures.orders) c.lower_traded.ensures.lowered in
    record {
      gaps = AreGaps-live c.fill_orders.new.orders.items c.close_gaps.new.gaps c.close_gaps.ensures.closed (live c);
      live = rw (same c) (live c);
      enough = omega (arith, shorter c, c.self.invariant.enough, c.close_gaps.ensures.room);
      sums = rw (same c, is c) (SumsAre-staying orders c.args.rates.now count (within_left _ c.args.rates.now rooms) c.self.inside.sums.table c.lower_traded.new.sums.table c.self.invariant.sums lowered);
    }

pub returns-clause-live : goal.returns-clause-live
returns-clause-live c = rw (same c) (live c)

pub returns-clause-orders : goal.returns-clause-orders
returns-clause-orders c = same c ∙ is c ∙ ap (λ (b : Book). staying (trades b.orders c.args.rates.now)) c.self.view_is

pub returns-clause-room : goal.returns-clause-room
returns-clause-room c =
    rw (← c.self.view_is) (room_kept _ _ (spare c.self.inside.sums.table) _ _ (spare c.lower_traded.new.sums.table)
    (omega (arith, c.close_gaps.ensures.len, c.close_gaps.ensures.capacity, c.fill_orders.ensures.len, c.fill_orders.ensures.capacity))
    (omega (arith, shorter c, c.close_gaps.ensures.room)) c.lower_traded.ensures.room)
