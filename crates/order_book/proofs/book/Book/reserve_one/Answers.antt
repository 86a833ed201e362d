use Rattle.std.proofs.Common.{length, ap, ◌∙◌, arith}
use Rattle.order_book.specs.Gaps.{live_in}
use Rattle.order_book.proofs.LiveOrders.{live_same, AreGaps-same}
use Rattle.order_book.proofs.book.Book.reserve_one.Goals as goal

pub invariant_of-self-in_err-reserve-2 : goal.invariant_of-self-in_err-reserve-2
invariant_of-self-in_err-reserve-2 c =
    let same = live_same c.self.inside.gaps c.reserve-2.new.self c.reserve-2.ensures.keys c.self.inside.slots.items in
    record {
      gaps = rw c.reserve.ensures.items (AreGaps-same c.self.inside.gaps c.reserve-2.new.self c.reserve-2.ensures.keys c.self.inside.slots.items c.self.invariant.gaps);
      live = rw (c.reserve.ensures.items, same) c.self.invariant.live;
      enough = omega (arith, ap (λ l. length (live_in c.reserve-2.new.self l)) c.reserve.ensures.items, ap length (same), c.self.invariant.enough, c.reserve-2.ensures.room.0);
      sums = rw (c.reserve.ensures.items, same) c.self.invariant.sums;
    }

pub invariant_of-self-in_err-reserve-3 : goal.invariant_of-self-in_err-reserve-3
invariant_of-self-in_err-reserve-3 c =
    let same = live_same c.self.inside.gaps c.reserve-2.new.self c.reserve-2.ensures.keys c.self.inside.slots.items in
    record {
      gaps = rw c.reserve.ensures.items (AreGaps-same c.self.inside.gaps c.reserve-2.new.self c.reserve-2.ensures.keys c.self.inside.slots.items c.self.invariant.gaps);
      live = rw (c.reserve.ensures.items, same) c.self.invariant.live;
      enough = omega (arith, ap (λ l. length (live_in c.reserve-2.new.self l)) c.reserve.ensures.items, ap length (same), c.self.invariant.enough, c.reserve-2.ensures.room.0);
      sums = rw (c.reserve.ensures.items, same) (λ need. c.reserve-3.ensures.sums need ∙ c.self.invariant.sums need);
    }

pub invariant_of-self-2 : goal.invariant_of-self-2
invariant_of-self-2 c =
    let same = live_same c.self.inside.gaps c.reserve-2.new.self c.reserve-2.ensures.keys c.self.inside.slots.items in
    record {
      gaps = rw c.reserve.ensures.items (AreGaps-same c.self.inside.gaps c.reserve-2.new.self c.reserve-2.ensures.keys c.self.inside.slots.items c.self.invariant.gaps);
      live = rw (c.reserve.ensures.items, same) c.self.invariant.live;
      enough = omega (arith, ap (λ l. length (live_in c.reserve-2.new.self l)) c.reserve.ensures.items, ap length (same), c.self.invariant.enough, c.reserve-2.ensures.room.0);
      sums = rw (c.reserve.ensures.items, same) (λ need. c.reserve-3.ensures.sums need ∙ c.self.invariant.sums need);
    }
