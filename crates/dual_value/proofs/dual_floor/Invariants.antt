use Rattle.std.proofs.Common.{◌≡◌, ◌*◌, ◌^◌, ◌≤◌, take}
use Rattle.flow_orders.specs.Outcomes.{dual_of}
use Rattle.dual_value.proofs.dual_floor.Given as goal

abbrev pub invariant-loop-order : goal.invariant-loop-order
invariant-loop-order l = (l.sum ≡ dual_of (take l.order-index l.orders) l.prices) × (l.sum ≤ l.order-index * 2 ^ 103)
