-- The column of an asset: the orders that name it.
use Rattle.std.specs.Prelude.{ℕ, ◌+◌, ◌==◌, if◌then◌else◌, unsigned_abs, List, [], ◌∷◌}
use Rattle.weight_rows.specs.Rows.{weight_in}
use Rattle.flow_orders.specs.Orders.{Order}
use Rattle.excess_bounds.specs.declared.columns.Cell.{Cell}

-- the cells of an asset, of orders at the places from `place` on: the place of each order that names it, with its weight there
abbrev pub column_from : ℕ → List Order → ℕ → List Cell
column_from place [] asset = []
column_from place (o ∷ orders) asset =
    if unsigned_abs (weight_in o.row asset) == 0 then column_from (place + 1) orders asset else
    record { place = place; weight = weight_in o.row asset } ∷ column_from (place + 1) orders asset

-- the places of the orders that name an asset, ascending, with its weight in each
abbrev pub column_of : List Order → ℕ → List Cell
column_of orders asset = column_from 0 orders asset
