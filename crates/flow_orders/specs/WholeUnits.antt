-- The excess of an asset in whole units, from demands that are rounded to whole units. With one part of a unit, the excess in parts is this.
use Rattle.std.specs.Prelude.{ℕ, suc, ◌*◌, ℤ, pos, negsuc, neg_ℤ, int_lt, List, Bool}
use Rattle.list_sums.specs.Sums.{int_sum_by}
use Rattle.weight_rows.specs.Rows.{weight_in}
use Rattle.demand_curve.specs.Demand.{Terms, floor_rate, ceil_rate}
use Rattle.flow_orders.specs.Orders.{Order, terms_of}
use Rattle.flow_orders.specs.Excess.{price_for, steepness}

-- what an order adds to an asset's low excess: its weight times its demand, rounded down if the weight buys and up if it sells
abbrev pub low_part : ℤ → Terms → ℤ → ℤ
low_part (pos n) t price = pos (n * floor_rate t price)
low_part (negsuc n) t price = neg_ℤ (pos (suc n * ceil_rate t price))

-- what an order adds to an asset's high excess: its weight times its demand, rounded up if the weight buys and down if it sells
abbrev pub high_part : ℤ → Terms → ℤ → ℤ
high_part (pos n) t price = pos (n * ceil_rate t price)
high_part (negsuc n) t price = neg_ℤ (pos (suc n * floor_rate t price))

-- the low excess of an asset, in units: what all orders demand less what they supply, each demand rounded so that the sum is least
abbrev pub low_excess : List Order → List ℤ → ℕ → ℤ
low_excess orders prices asset = int_sum_by (λ o. low_part (weight_in o.row asset) (terms_of o) (price_for prices o)) orders

-- the high excess of an asset, in units: what all orders demand less what they supply, each demand rounded so that the sum is greatest
abbrev pub high_excess : List Order → List ℤ → ℕ → ℤ
high_excess orders prices asset = int_sum_by (λ o. high_part (weight_in o.row asset) (terms_of o) (price_for prices o)) orders

-- the low excess is above the slope bound, so the price is too low
abbrev pub is_above : List Order → List ℤ → ℕ → Bool
is_above orders prices asset = int_lt (pos (steepness orders asset)) (low_excess orders prices asset)

-- the high excess is below minus the slope bound, so the price is too high
abbrev pub is_below : List Order → List ℤ → ℕ → Bool
is_below orders prices asset = int_lt (high_excess orders prices asset) (neg_ℤ (pos (steepness orders asset)))
