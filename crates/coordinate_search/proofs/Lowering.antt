-- The walk of a search so far lowers the exact dual value.
use Rattle.std.proofs.Common.{ℕ, ◌≤◌, ℤ, List, subst}
use Rattle.std.specs.Prelude.{All}
use Rattle.flow_orders.specs.Orders.{Order, IsOrder}
use Rattle.flow_orders.specs.Duals.{movement_of}
use Rattle.price_moves.specs.Retracing.{IsLowered}
use Rattle.price_moves.proofs.Lowering.{walk_lowers}
use Rattle.coordinate_search.proofs.InTurn.{IsSearching, legal_so_far}

-- the moves of a search so far lower the exact dual value by their movement
pub search_lowers : (parts : ℕ) → 1 ≤ parts → (orders : List Order) (start : List ℤ) (now : List Order) (prices : List ℤ) (next : ℕ) (walk : List ℕ) → IsSearching parts orders start now prices next walk → All IsOrder now
    → IsLowered orders start (movement_of parts orders start walk) prices
search_lowers parts whole orders start now prices next walk so_far each =
    walk_lowers parts whole orders start walk prices (subst (All IsOrder) so_far.same each) (legal_so_far parts orders start now prices next walk so_far) so_far.end
