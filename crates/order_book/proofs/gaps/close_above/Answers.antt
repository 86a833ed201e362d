use Rattle.std.proofs.Common.{◌∙◌}
use Rattle.order_book.proofs.LiveOrders.{all_live, AreSlots-live, AreGaps-none}
use Rattle.order_book.proofs.gaps.close_above.Goals as goal

pub returns-then-not-are_below-clause-gaps : goal.returns-then-not-are_below-clause-gaps
returns-then-not-are_below-clause-gaps c =
    rw c.close_gaps.ensures.orders (AreGaps-none _ c.close_gaps.new.gaps c.close_gaps.ensures.closed (AreSlots-live c.args.gaps.now c.args.slots.now.items c.requires.gaps.ordered))

pub returns-then-not-are_below-clause-orders : goal.returns-then-not-are_below-clause-orders
returns-then-not-are_below-clause-orders c =
    all_live c.close_gaps.new.gaps c.close_gaps.new.slots.items c.close_gaps.ensures.closed ∙ c.close_gaps.ensures.orders
