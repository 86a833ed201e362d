use Rattle.std.proofs.Common.{length, refl, ap, subst, ◌∙◌, arith}
use Rattle.indexmap.specs.IndexMap.{spare}
use Rattle.order_book.specs.Book.{Book, AreLive}
use Rattle.order_book.proofs.LiveOrders.{closed_is, AreGaps-closed}
use Rattle.order_book.proofs.Room.{room_kept}
use Rattle.order_book.proofs.book.Book.orders.Goals as goal

pub invariant_of-self : goal.invariant_of-self
invariant_of-self c =
    let same = closed_is c.self.inside.gaps c.close_gaps.new.gaps c.self.inside.slots.items c.close_gaps.new.slots.items c.close_gaps.ensures.orders c.close_gaps.ensures.closed in
    record {
      gaps = AreGaps-closed c.self.inside.gaps c.close_gaps.new.gaps c.self.inside.slots.items c.close_gaps.new.slots.items c.close_gaps.ensures.orders c.close_gaps.ensures.closed c.self.invariant.gaps;
      live = rw same c.self.invariant.live;
      enough = omega (arith, ap length same, c.self.invariant.enough, c.close_gaps.ensures.room);
      sums = rw same c.self.invariant.sums;
    }

pub returns : goal.returns
returns c =
    let same = closed_is c.self.inside.gaps c.close_gaps.new.gaps c.self.inside.slots.items c.close_gaps.new.slots.items c.close_gaps.ensures.orders c.close_gaps.ensures.closed in
    let kept = room_kept _ _ (spare c.self.inside.sums.table) _ _ (spare c.self.inside.sums.table)
    (omega (arith, c.close_gaps.ensures.len, c.close_gaps.ensures.capacity)) (omega (arith, ap length same, c.close_gaps.ensures.room)) (omega arith) in (
      (refl, λ _. tt, record { orders = same ∙ ap (λ (b : Book). b.orders) c.self.view_is; room = rw (← c.self.view_is) kept }),
      record {
        value = c.as_slice.ensures.value ∙ c.close_gaps.ensures.orders ∙ ap (λ (b : Book). b.orders) c.self.view_is;
        live = subst (λ (b : Book). AreLive b.orders) c.self.view_is c.self.invariant.live;
        after = tt;
      },
    )
