-- The excess of an asset in a book of orders at given prices, in parts of a unit, and whether the asset is settled. Whole units are one part.
use Rattle.std.specs.Prelude.{ℕ, suc, ◌+◌, ◌*◌, ℤ, pos, negsuc, neg_ℤ, int_lt, unsigned_abs, List, Bool, ◌||◌}
use Rattle.std.specs.List.{sum_by}
use Rattle.std.specs.Int.{div_ceil}
use Rattle.list_sums.specs.Sums.{int_sum_by}
use Rattle.weight_rows.specs.Rows.{weight_in, portfolio_price}
use Rattle.demand_curve.specs.Demand.{Terms, floor_in, ceil_in}
use Rattle.flow_orders.specs.Orders.{Order, terms_of}

-- the price of one unit of an order's portfolio, in grains
abbrev pub price_for : List ℤ → Order → ℤ
price_for prices o = portfolio_price o.row prices

-- what an order adds to an asset's low excess: its weight times its demand, rounded down if the weight buys and up if it sells
abbrev pub low_part_in : ℕ → ℤ → Terms → ℤ → ℤ
low_part_in parts (pos n) t price = pos (n * floor_in parts t price)
low_part_in parts (negsuc n) t price = neg_ℤ (pos (suc n * ceil_in parts t price))

-- what an order adds to an asset's high excess: its weight times its demand, rounded up if the weight buys and down if it sells
abbrev pub high_part_in : ℕ → ℤ → Terms → ℤ → ℤ
high_part_in parts (pos n) t price = pos (n * ceil_in parts t price)
high_part_in parts (negsuc n) t price = neg_ℤ (pos (suc n * floor_in parts t price))

-- the low excess of an asset: what all orders demand less what they supply, each demand rounded so that the sum is least
abbrev pub low_excess_in : ℕ → List Order → List ℤ → ℕ → ℤ
low_excess_in parts orders prices asset = int_sum_by (λ o. low_part_in parts (weight_in o.row asset) (terms_of o) (price_for prices o)) orders

-- the high excess of an asset: what all orders demand less what they supply, each demand rounded so that the sum is greatest
abbrev pub high_excess_in : ℕ → List Order → List ℤ → ℕ → ℤ
high_excess_in parts orders prices asset = int_sum_by (λ o. high_part_in parts (weight_in o.row asset) (terms_of o) (price_for prices o)) orders

-- the rounding bound of an asset, in units: the sum of its absolute weights in all orders
abbrev pub spread : List Order → ℕ → ℕ
spread orders asset = sum_by (λ o. unsigned_abs (weight_in o.row asset)) orders

-- the slope bound of an asset, in units: the sum of its squared weights divided by 256, rounded up; a grain of its price moves its true
-- excess, of demands that aren't rounded, by no more than that
unfoldable pub steepness : List Order → ℕ → ℕ
steepness orders asset = div_ceil (sum_by (λ o. unsigned_abs (weight_in o.row asset) * unsigned_abs (weight_in o.row asset)) orders) 256

-- the tolerance of an asset, in units: the largest imbalance that a batch may have
abbrev pub residual_bound : List Order → ℕ → ℕ
residual_bound orders asset = spread orders asset + steepness orders asset

-- the low excess is above the slope bound, so the price is too low
abbrev pub is_above_in : ℕ → List Order → List ℤ → ℕ → Bool
is_above_in parts orders prices asset = int_lt (pos (parts * steepness orders asset)) (low_excess_in parts orders prices asset)

-- the high excess is below minus the slope bound, so the price is too high
abbrev pub is_below_in : ℕ → List Order → List ℤ → ℕ → Bool
is_below_in parts orders prices asset = int_lt (high_excess_in parts orders prices asset) (neg_ℤ (pos (parts * steepness orders asset)))

-- an asset is unsettled if by whole units its price is too low or too high, and settled if it is neither
unfoldable pub is_unsettled : List Order → List ℤ → ℕ → Bool
is_unsettled orders prices asset = is_above_in 1 orders prices asset || is_below_in 1 orders prices asset
