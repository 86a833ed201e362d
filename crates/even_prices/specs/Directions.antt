-- Which way the price of an asset that isn't even moves.
use Rattle.std.specs.Prelude.{◌≡◌, ℕ, ℤ, List, true}
use Rattle.flow_orders.specs.Orders.{Order}
use Rattle.excess_bounds.specs.declared.directions.Direction.{Direction}
use Rattle.excess_bounds.specs.declared.directions.Direction.TheVariants.{Rise, Fall}
use Rattle.even_prices.specs.Even.{is_too_low, is_too_high}

-- the price of an asset rises if it is too low, and falls if it is too high
abbrev pub IsUnevenTowards : List Order → List ℤ → ℕ → Direction → Type 0
IsUnevenTowards orders prices asset Rise = is_too_low orders prices asset ≡ true
IsUnevenTowards orders prices asset Fall = is_too_high orders prices asset ≡ true
