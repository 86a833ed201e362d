-- How large the gap of a clearing may be.
use Rattle.std.specs.Prelude.{ℕ, ℤ, ◌+◌, ◌*◌, unsigned_abs, List, length}
use Rattle.std.specs.List.{range_with_len, sum_by}
use Rattle.weight_rows.specs.Rows.{price_of}
use Rattle.std.specs.Int.{div_ceil}
use Rattle.demand_curve.specs.Demand.{span}
use Rattle.flow_orders.specs.Orders.{Order, terms_of}
use Rattle.flow_orders.specs.Excess.{residual_bound}

-- the bound of a gap, in grains: what all roundings can lose, and what imbalances within their tolerances can cost
abbrev pub gap_bound : List Order → List ℤ → ℕ
gap_bound orders prices =
    sum_by (λ o. div_ceil (span (terms_of o)) (2 * o.rate)) orders
    + sum_by (λ asset. unsigned_abs (price_of prices asset) * residual_bound orders asset) (range_with_len 0 (length prices))
