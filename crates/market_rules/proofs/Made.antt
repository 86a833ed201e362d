-- The markets that accepted commands make.
use Rattle.std.specs.Prelude.{ℕ, ◌+◌, ◌==◌, not, pos, List, [], ◌∷◌, ◌++◌}
use Rattle.std.specs.List.{filter}
use Rattle.flow_accounts.specs.Balances.{Balances, with_asset, add_asset}
use Rattle.flow_orders.specs.Orders.{Order}
use Rattle.market_rules.specs.Market.{Market}

-- an asset was added
abbrev pub with_ticker : Market → List ℕ → Market
with_ticker m ticker = record m {
  tickers = m.tickers ++ ticker ∷ [];
  balances = add_asset m.balances;
  exchange = with_asset m.exchange;
  last_prices = m.last_prices ++ pos 0 ∷ [];
}

-- other balances
abbrev pub with_balances : Market → Balances → Market
with_balances m balances = record m { balances = balances }

-- an order was placed
abbrev pub with_order : Market → Order → Market
with_order m order = record m { orders = m.orders ++ order ∷ []; next_order = m.next_order + 1 }

-- the order of a number left
abbrev pub without_order : Market → ℕ → Market
without_order m number = record m { orders = filter (λ o. not (o.number == number)) m.orders }
