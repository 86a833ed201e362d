-- The quote of an order at its place.
use Rattle.std.proofs.Common.{◌≡◌, ℕ, ◌<◌, ℤ, List, length, get_or, sym, ap, ◌∙◌, arith}
use Rattle.std.proofs.lemmas.List.{get_or-map, length-map}
use Rattle.flow_orders.specs.Orders.{Order}
use Rattle.excess_bounds.specs.Quotes.{Quote, quote_at, quotes_at}

module _ (prices : List ℤ) (orders : List Order) (quotes : List Quote) (i : ℕ) (are : quotes ≡ quotes_at orders prices) (inside : i < length orders) where
  -- the quote at a place is that of the order there
  pub quote_here : (o : Order) (q : Quote) → o ≡ get_or orders i o → q ≡ get_or quotes i q → q ≡ quote_at prices o
  quote_here o q here is =
      is ∙ ap (λ qs. get_or qs i q) are ∙ get_or-map (quote_at prices) orders i o q inside ∙ ap (quote_at prices) (sym here)

  -- the order at place i has a quote
  pub quote_there : i < length quotes
  quote_there = omega (arith, inside, ap length are, length-map orders (quote_at prices))
