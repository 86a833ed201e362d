use Rattle.std.proofs.Common.{◌≡◌, length}
use Rattle.order_book.specs.Gaps.{live_in}
use Rattle.order_book.proofs.live.LiveIterIterator.next.Given as goal

abbrev pub invariant-loop-first : goal.invariant-loop-first
invariant-loop-first l = live_in l.self-inside.gaps.now l.self-inside.slots.now ≡ l.fn.self

abbrev pub decreases-loop-first : goal.decreases-loop-first
decreases-loop-first l = length l.self-inside.slots.now
