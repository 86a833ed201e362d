use Rattle.std.proofs.Common.{◌∙◌, arith}
use Rattle.order_book.proofs.LiveOrders.{all_live, AreSlots-live, AreGaps-none, one_gap_more}
use Rattle.order_book.proofs.gaps.leave_gap.Goals as goal

pub overflow_sub-len : goal.overflow_sub-len
overflow_sub-len c =
    let one = one_gap_more c.args.gaps.now c.insert.new.self c.args.number c.args.slots.now.items c.requires.gaps c.requires.there c.requires.live (rw c.unwrap.ensures at c.insert.ensures.keys) in
    omega (arith, one.0.count, c.len-2.ensures, c.len-3.ensures.len, c.args.slots.now.ok.0)

pub close_gaps-requires : goal.close_gaps-requires
close_gaps-requires c =
    (one_gap_more c.args.gaps.now c.insert.new.self c.args.number c.args.slots.now.items c.requires.gaps c.requires.there c.requires.live (rw c.unwrap.ensures at c.insert.ensures.keys)).0

pub returns-then-len-clause-gaps : goal.returns-then-len-clause-gaps
returns-then-len-clause-gaps c =
    rw c.close_gaps.ensures.orders (AreGaps-none _ c.close_gaps.new.gaps c.close_gaps.ensures.closed (AreSlots-live c.insert.new.self c.args.slots.now.items c.requires.gaps.ordered))

pub returns-then-len-clause-orders : goal.returns-then-len-clause-orders
returns-then-len-clause-orders c =
    let one = one_gap_more c.args.gaps.now c.insert.new.self c.args.number c.args.slots.now.items c.requires.gaps c.requires.there c.requires.live (rw c.unwrap.ensures at c.insert.ensures.keys) in
    all_live c.close_gaps.new.gaps c.close_gaps.new.slots.items c.close_gaps.ensures.closed ∙ c.close_gaps.ensures.orders ∙ one.1

pub returns-else-len-clause-gaps : goal.returns-else-len-clause-gaps
returns-else-len-clause-gaps c =
    (one_gap_more c.args.gaps.now c.insert.new.self c.args.number c.args.slots.now.items c.requires.gaps c.requires.there c.requires.live (rw c.unwrap.ensures at c.insert.ensures.keys)).0

pub returns-else-len-clause-orders : goal.returns-else-len-clause-orders
returns-else-len-clause-orders c =
    (one_gap_more c.args.gaps.now c.insert.new.self c.args.number c.args.slots.now.items c.requires.gaps c.requires.there c.requires.live (rw c.unwrap.ensures at c.insert.ensures.keys)).1
