use Rattle.std.proofs.Common.{◌≡◌, ◌≤◌, length, map, take}
use Rattle.std.specs.Prelude.{vec_len, vec_capacity}
use Rattle.market_rules.specs.Market.{cut_price}
use Rattle.market_core.proofs.market.Market.start_prices.Given as goal

abbrev pub invariant-loop-price : goal.invariant-loop-price
invariant-loop-price l =
    (l.prices.items ≡ map cut_price (take l.price-index l.last))
    × (vec_len l.prices ≡ l.price-index)
    × (length l.last ≤ vec_capacity l.prices)
