-- What settling a batch does to the accounts and to the exchange.
use Rattle.std.specs.Prelude.{ℕ, ℤ, ◌+ℤ◌, ◌-ℤ◌, List, map, Some, None}
use Rattle.std.specs.List.{range_with_len}
use Rattle.flow_accounts.specs.Balances.{Account, Balances, account_count, asset_count, account_of, balance_of, balance_in}
use Rattle.flow_orders.specs.Orders.{own_sum}
use Rattle.flow_orders.specs.Trades.{Trade, trader, paid, received, residual, residual_cost}

-- an account after the batch: it pays for its own trades, and receives their units
unfoldable pub settled_account : List ℤ → List Trade → Balances → ℕ → Account
settled_account prices ts b account = record (account_of b account) {
  money = balance_of b account None -ℤ own_sum trader account (paid prices) ts;
  units = map (λ asset. balance_of b account (Some asset) +ℤ own_sum trader account (received asset) ts) (range_with_len 0 (asset_count b));
}

-- all balances after the batch; no credit and no total changes
abbrev pub settled_balances : List ℤ → List Trade → Balances → Balances
settled_balances prices ts b = record b { accounts = map (settled_account prices ts b) (range_with_len 1 (account_count b)) }

-- the exchange's account after the batch: it takes the other side of each asset's imbalance, and is paid its cost
abbrev pub settled_exchange : List ℤ → List Trade → Balances → Account → Account
settled_exchange prices ts b exchange = record exchange {
  money = exchange.money +ℤ residual_cost prices ts;
  units = map (λ asset. balance_in exchange (Some asset) -ℤ residual ts asset) (range_with_len 0 (asset_count b));
}
