-- An order at a price of its portfolio, as contracts see it.
use Rattle.std.specs.Prelude.{ℤ, List, map}
use Rattle.demand_curve.specs.Demand.{Terms}
use Rattle.flow_orders.specs.Orders.{Order, terms_of}
use Rattle.flow_orders.specs.Excess.{price_for}

-- the terms of an order's curve, with a price of its portfolio in grains
pub record Quote : Type 0 where
  pub terms : Terms
  pub price : ℤ

-- an order at the prices of the assets
abbrev pub quote_at : List ℤ → Order → Quote
quote_at prices o = record { terms = terms_of o; price = price_for prices o }

-- each order at the prices of the assets
abbrev pub quotes_at : List Order → List ℤ → List Quote
quotes_at orders prices = map (quote_at prices) orders
