-- What holds of the column of an asset, and of its excess as its price moves.
use Rattle.std.specs.Prelude.{◌≡◌, ◌≢◌, ◌↔◌, ◌⊎◌, ℕ, ◌*◌, ◌<◌, ◌≤◌, ℤ, pos, neg_ℤ, ◌+ℤ◌, ◌*ℤ◌, ◌≤ℤ◌, ◌<ℤ◌, true, List, length, map, All, AllPairs, slice_index_or, slice_set}
use Rattle.std.specs.List.{Contains}
use Rattle.list_sums.specs.Sums.{int_sum_by}
use Rattle.weight_rows.specs.Rows.{weight_in, price_of}
use Rattle.demand_curve.specs.Demand.{scaled_demand}
use Rattle.flow_orders.specs.Orders.{Order, IsOrder, terms_of}
use Rattle.flow_orders.specs.Excess.{price_for, low_excess_in, high_excess_in, steepness, is_unsettled}
use Rattle.flow_orders.specs.WholeUnits.{low_excess, high_excess}
use Rattle.flow_orders.specs.Moves.{moved}
use Rattle.flow_orders.specs.Duals.{share, IsCommonPart}
use Rattle.excess_bounds.specs.declared.columns.Cell.{Cell}
use Rattle.excess_bounds.specs.Columns.{column_of}

-- the weight of an asset in the order at a place, 0 if the order doesn't name it or no order is there
abbrev pub weight_at : List Order → ℕ → ℕ → ℤ
weight_at orders asset place = slice_index_or (map (λ (o : Order). weight_in o.row asset) orders) place (pos 0)

-- each order that names an asset has a cell with its place and its weight, and there are no other cells; the places ascend
pub record ListsOrders (orders : List Order) (asset : ℕ) (column : List Cell) : Type 0 where
  pub cells : (c : Cell) → Contains column c ↔ ((c.weight ≡ weight_at orders asset c.place) × (c.weight ≢ pos 0))
  pub ascending : AllPairs (λ (c : Cell) (later : Cell). c.place < later.place) column

-- the column of an asset lists the orders that name it
abbrev pub ColumnsListOrders : Type 0
ColumnsListOrders = (orders : List Order) (asset : ℕ) → ListsOrders orders asset (column_of orders asset)

-- the true excess of an asset, in parts of 1/N of a unit: the sum of each order's weight times its demand, not rounded
abbrev pub true_excess : ℕ → List Order → List ℤ → ℕ → ℤ
true_excess N orders prices asset =
    int_sum_by (λ o. weight_in o.row asset *ℤ pos (share N (terms_of o) * (2 * o.rate) * scaled_demand (terms_of o) (price_for prices o))) orders

-- the true excess is between the low and the high excess, in whole units
abbrev pub ExcessIsEnclosed : Type 0
ExcessIsEnclosed = (N : ℕ) (orders : List Order) (prices : List ℤ) (asset : ℕ) → All IsOrder orders → IsCommonPart N orders
    → ((pos N *ℤ low_excess orders prices asset) ≤ℤ true_excess N orders prices asset)
    × (true_excess N orders prices asset ≤ℤ (pos N *ℤ high_excess orders prices asset))

-- the true excess is between the low and the high excess in parts of a unit
abbrev pub PartsEncloseExcess : Type 0
PartsEncloseExcess = (parts N : ℕ) (orders : List Order) (prices : List ℤ) (asset : ℕ) → All IsOrder orders → IsCommonPart N orders
    → ((pos N *ℤ low_excess_in parts orders prices asset) ≤ℤ (pos parts *ℤ true_excess N orders prices asset))
    × ((pos parts *ℤ true_excess N orders prices asset) ≤ℤ (pos N *ℤ high_excess_in parts orders prices asset))

-- the true excess at a price x + 1 of the asset is at most that at x, and at most the slope bound below it
pub record MovesLittle (N : ℕ) (orders : List Order) (prices : List ℤ) (asset : ℕ) (x : ℤ) : Type 0 where
  pub no_rise : true_excess N orders (slice_set prices asset (x +ℤ pos 1)) asset ≤ℤ true_excess N orders (slice_set prices asset x) asset
  pub little : true_excess N orders (slice_set prices asset x) asset
      ≤ℤ (true_excess N orders (slice_set prices asset (x +ℤ pos 1)) asset +ℤ pos (N * steepness orders asset))

-- a grain more of the asset's price doesn't raise the true excess, and lowers it by at most the slope bound
abbrev pub GrainsMoveExcessLittle : Type 0
GrainsMoveExcessLittle = (N : ℕ) (orders : List Order) (prices : List ℤ) (asset : ℕ) (x : ℤ)
    → All IsOrder orders → IsCommonPart N orders → asset < length prices → MovesLittle N orders prices asset x

-- the price of an asset rose and the true excess is still a part of a unit or more, or it fell and the true excess is minus a part or less
abbrev pub LeavesExcess : ℕ → ℕ → List Order → List ℤ → ℕ → List ℤ → Type 0
LeavesExcess parts N orders prices asset next =
    ((price_of prices asset <ℤ price_of next asset) × (pos N ≤ℤ (pos parts *ℤ true_excess N orders next asset)))
    ⊎ ((price_of next asset <ℤ price_of prices asset) × ((pos parts *ℤ true_excess N orders next asset) ≤ℤ neg_ℤ (pos N)))

-- a move of an unsettled asset leaves at least a part of a unit of true excess in the direction moved
abbrev pub MovesLeaveExcess : Type 0
MovesLeaveExcess = (parts : ℕ) → 1 ≤ parts → (N : ℕ) (orders : List Order) (prices : List ℤ) (asset reach : ℕ)
    → All IsOrder orders → IsCommonPart N orders → asset < length prices → 1 ≤ reach → is_unsettled orders prices asset ≡ true
    → LeavesExcess parts N orders prices asset (moved parts orders reach prices asset)
