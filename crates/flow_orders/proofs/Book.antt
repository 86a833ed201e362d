-- An order within the limits, and whether an asset is settled.
use Rattle.std.specs.Prelude.{ℕ, ◌*◌, ℤ, pos, neg_ℤ, ◌≤ℤ◌, List, unsigned_abs}
use Rattle.std.specs.List.{sum_by}
use Rattle.weight_rows.specs.Rows.{IsWeightVector, weight_in}
use Rattle.demand_curve.specs.Demand.{IsWithinLimits}
use Rattle.flow_orders.specs.Orders.{Order, terms_of}
use Rattle.flow_orders.specs.Excess.{steepness}
use Rattle.flow_orders.specs.WholeUnits.{low_excess, high_excess}

-- an order whose curve and weight vector are within the limits
pub record IsConsistent (o : Order) : Type 0 where
  pub limits : IsWithinLimits (terms_of o)
  pub lawful : IsWeightVector o.row

-- the sum of the squares of an asset's weights
abbrev pub squares : List Order → ℕ → ℕ
squares orders asset = sum_by (λ o. unsigned_abs (weight_in o.row asset) * unsigned_abs (weight_in o.row asset)) orders

-- an asset is settled: its low excess isn't above the slope bound, nor its high excess below minus the slope bound
pub record IsSettled (orders : List Order) (prices : List ℤ) (asset : ℕ) : Type 0 where
  pub low : low_excess orders prices asset ≤ℤ pos (steepness orders asset)
  pub high : neg_ℤ (pos (steepness orders asset)) ≤ℤ high_excess orders prices asset
