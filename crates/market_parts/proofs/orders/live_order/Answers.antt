use Rattle.std.proofs.Common.{◌∙◌, true≢false, sym}
use Rattle.market_parts.proofs.orders.live_order.Goals as goal

pub returns-then-not-has_consistent_numbers-clause-unsound : goal.returns-then-not-has_consistent_numbers-clause-unsound
returns-then-not-has_consistent_numbers-clause-unsound g c _ s = true≢false (sym (c.has_consistent_numbers.ensures.1 (rw c.numbers_at-order.ensures s.numbers)) ∙ c.if-not-has_consistent_numbers.true)

pub returns-clause-consistent : goal.returns-clause-consistent
returns-clause-consistent g c = record { numbers = rw c.numbers_at-order.ensures at (c.has_consistent_numbers.ensures.0 c.if-not-has_consistent_numbers.false); row = rw c.limits-legs.ensures at c.in_ok-row.ensures.consistent }
