-- How near the dual value of a book is to its exact dual value.
use Rattle.std.specs.Prelude.{ℕ, ◌+◌, ◌*◌, ◌≤◌, ℤ, List, length, All}
use Rattle.flow_orders.specs.Orders.{Order, IsOrder}
use Rattle.flow_orders.specs.Outcomes.{dual_of}
use Rattle.flow_orders.specs.Duals.{IsCommonPart, exact_dual}

-- The dual value of a book is at most its exact dual value, and less than a grain for each order below it.
pub record IsNearDual (N : ℕ) (orders : List Order) (prices : List ℤ) : Type 0 where
  pub below : N * dual_of orders prices ≤ exact_dual N orders prices
  pub near : exact_dual N orders prices + length orders ≤ N * (dual_of orders prices + length orders)

-- at all prices, the dual value of every book is near its exact one
abbrev pub DualFloorsAreNear : Type 0
DualFloorsAreNear = (N : ℕ) (orders : List Order) (prices : List ℤ) → All IsOrder orders → IsCommonPart N orders → IsNearDual N orders prices
