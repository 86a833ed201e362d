-- How far the walk of a skipped batch came, and what its dual values say of it.
use Rattle.std.specs.Prelude.{ℕ, ◌+◌, ◌*◌, ◌≤◌, ℤ, pos, ◌+ℤ◌, ◌<ℤ◌, List, length}
use Rattle.flow_orders.specs.Orders.{Order}
use Rattle.flow_orders.specs.Outcomes.{Skipping, end_of}
use Rattle.flow_orders.specs.Duals.{IsCommonPart, exact_dual, movement_of}

-- The walk, by this many parts, lowers the exact dual value by at least its movement, which is at least a grain for each move; so its two
-- dual values differ by more than its movement less the number of orders.
pub record LowersTheDual (parts : ℕ) (orders : List Order) (start : List ℤ) (s : Skipping) : Type 0 where
  pub exact : (N : ℕ) → IsCommonPart N orders
      → exact_dual N orders (end_of parts orders start s.trace) + N * movement_of parts orders start s.trace ≤ exact_dual N orders start
  pub moves : length s.trace ≤ movement_of parts orders start s.trace
  pub floors : (s.end_dual +ℤ pos (movement_of parts orders start s.trace)) <ℤ (s.start_dual +ℤ pos (length orders))
