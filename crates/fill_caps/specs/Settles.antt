-- What settling trades does, account by account.
use Rattle.std.specs.Prelude.{◌≡◌, ℕ, ℤ, ◌+ℤ◌, ◌-ℤ◌, List}
use Rattle.flow_accounts.specs.Balances.{Account, Balances, IsAccount, IsAsset, account_count, money_of, units_of, units_in}
use Rattle.flow_orders.specs.Orders.{own_sum}
use Rattle.flow_orders.specs.Trades.{Trade, trader, paid, received, residual, residual_cost}

-- each account pays for its own trades and gets their units; the exchange takes the other side of the imbalances; no credit or total changes
pub record Settles (prices : List ℤ) (ts : List Trade) (old new : Balances) (exchange_old exchange_new : Account) : Type 0 where
  pub accounts : account_count new ≡ account_count old
  pub credits : new.credits ≡ old.credits
  pub totals : new.totals ≡ old.totals
  pub money : (account : ℕ) → IsAccount old account → money_of new account ≡ money_of old account -ℤ own_sum trader account (paid prices) ts
  pub units : (account asset : ℕ) → IsAccount old account → IsAsset old asset → units_of new account asset ≡ units_of old account asset +ℤ own_sum trader account (received asset) ts
  pub exchange_money : exchange_new.money ≡ exchange_old.money +ℤ residual_cost prices ts
  pub exchange_units : (asset : ℕ) → IsAsset old asset → units_in exchange_new asset ≡ units_in exchange_old asset -ℤ residual ts asset
