use Rattle.std.proofs.Common.{◌≡◌, map, take}
use Rattle.flow_orders.specs.Orders.{terms_of}
use Rattle.joint_prices.specs.OrderStates.{line}
use Rattle.joint_rounds.proofs.searching.lines_of.Given as goal

abbrev pub invariant-loop-order : goal.invariant-loop-order
invariant-loop-order l = l.lines.items ≡ map (λ o. line (terms_of o)) (take l.order-index l.orders)
