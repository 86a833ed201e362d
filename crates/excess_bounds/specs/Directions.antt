-- Which way the price of an asset moves, and what is asked for of it on the way.
use Rattle.std.specs.Prelude.{◌≡◌, ℕ, ℤ, pos, neg_ℤ, ◌+ℤ◌, ◌-ℤ◌, List, true}
use Rattle.flow_orders.specs.Orders.{Order}
use Rattle.flow_orders.specs.Excess.{low_excess_in, high_excess_in}
use Rattle.flow_orders.specs.Moves.{risen, fallen}
use Rattle.flow_orders.specs.WholeUnits.{is_above, is_below}
use Rattle.excess_bounds.specs.declared.directions.Direction.{Direction}
use Rattle.excess_bounds.specs.declared.directions.Direction.TheVariants.{Rise, Fall}

-- a direction is that in which the price of an asset moves: it rises if it is too low, and falls if it is too high
abbrev pub IsTowards : List Order → List ℤ → ℕ → Direction → Type 0
IsTowards orders prices asset Rise = is_above orders prices asset ≡ true
IsTowards orders prices asset Fall = is_below orders prices asset ≡ true

-- a price after it moved by an amount in a direction
abbrev pub price_towards : Direction → ℤ → ℕ → ℤ
price_towards Rise price amount = price +ℤ pos amount
price_towards Fall price amount = price -ℤ pos amount

-- what is asked for after the price of an asset moved by an amount: the low excess in parts of a unit after a rise, and minus the high one after a fall
abbrev pub asked_towards : Direction → ℕ → List Order → List ℤ → ℕ → ℕ → ℤ
asked_towards Rise parts orders prices asset amount = low_excess_in parts orders (risen prices asset amount) asset
asked_towards Fall parts orders prices asset amount = neg_ℤ (high_excess_in parts orders (fallen prices asset amount) asset)
