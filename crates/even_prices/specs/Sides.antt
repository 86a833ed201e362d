-- Definitions for private functions: the four excesses of an asset that tell whether it is even, summed for all assets at once.
use Rattle.std.specs.Prelude.{ℕ, ℤ, ◌+ℤ◌, ◌-ℤ◌, List, length}
use Rattle.list_sums.specs.Sums.{int_sum_by}
use Rattle.weight_rows.specs.declared.entries.Entry.{Entry}
use Rattle.weight_rows.specs.Rows.{weight_in}
use Rattle.demand_curve.specs.Demand.{Terms}
use Rattle.flow_orders.specs.Orders.{Order, terms_of}
use Rattle.flow_orders.specs.Excess.{price_for, low_part_in, high_part_in}
use Rattle.flow_orders.specs.Residuals.{most_prices, residual_in, HasEach}
use Rattle.even_prices.specs.declared.book.Side.{Side}
use Rattle.even_prices.specs.declared.book.Side.TheVariants.{Low, High, Above, Below}
use Rattle.even_prices.specs.Even.{even_parts}

-- what an order adds to the excess of an asset of this weight, in parts: at this price of its portfolio, or once the asset's price is a
-- grain higher or lower
abbrev pub part_on : Side → Terms → ℤ → ℤ → ℤ
part_on Low t price weight = low_part_in even_parts weight t price
part_on High t price weight = high_part_in even_parts weight t price
part_on Above t price weight = high_part_in even_parts weight t (price +ℤ weight)
part_on Below t price weight = low_part_in even_parts weight t (price -ℤ weight)

-- each sum has grown by what the legs of a row add, which is a function of the asset's weight
abbrev pub HasGrown : (ℤ → ℤ) → List Entry → List ℤ → List ℤ → Type 0
HasGrown f row old new = HasEach (length old) (λ asset. residual_in old asset +ℤ f (weight_in row asset)) new

-- an excess of an asset: what all orders add to it
abbrev pub sum_on : Side → List Order → List ℤ → ℕ → ℤ
sum_on side orders prices asset = int_sum_by (λ o. part_on side (terms_of o) (price_for prices o) (weight_in o.row asset)) orders

-- an excess of each asset that may have a price
abbrev pub AreSummed : Side → List Order → List ℤ → List ℤ → Type 0
AreSummed side orders prices sums = HasEach most_prices (sum_on side orders prices) sums
