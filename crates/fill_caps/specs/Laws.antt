-- What holds of settlement.
use Rattle.std.specs.Prelude.{◌≡◌, ℤ, List, length, All}
use Rattle.flow_accounts.specs.Balances.{Account, Balances, asset_count}
use Rattle.flow_orders.specs.Trades.{Trade}
use Rattle.fill_caps.specs.Settlement.{settled_balances, settled_exchange}
use Rattle.fill_caps.specs.Settles.{Settles}

-- the settled balances and the settled exchange settle all trades
abbrev pub SettledBalancesSettle : Type 0
SettledBalancesSettle = (prices : List ℤ) (ts : List Trade) (b : Balances) (exchange : Account)
    → Settles prices ts b (settled_balances prices ts b) exchange (settled_exchange prices ts b exchange)

-- no other balances settle the same trades, if each account has one balance for each asset
abbrev pub SettlementIsDetermined : Type 0
SettlementIsDetermined = (prices : List ℤ) (ts : List Trade) (old new other : Balances) (exchange_old exchange_new exchange_other : Account)
    → Settles prices ts old new exchange_old exchange_new → Settles prices ts old other exchange_old exchange_other
    → All (λ (a : Account). length a.units ≡ asset_count old) new.accounts → All (λ (a : Account). length a.units ≡ asset_count old) other.accounts
    → new ≡ other
