use Rattle.std.proofs.Common.{◌≡◌, ℕ, ◌<◌, length, get_or}
use Rattle.flow_orders.specs.Orders.{Order}
use Rattle.batch_audit.proofs.outcomes.is_wide.Given as goal

abbrev pub invariant-loop-order : goal.invariant-loop-order
invariant-loop-order l = (k : ℕ) → k < l.order-index → (d : Order) → length (get_or l.orders k d).row ≡ 1
