-- What the legs of one order move between its account and the exchange.
use Rattle.std.specs.Prelude.{◌≡◌, ◌≢◌, ℕ, ℤ, pos, ◌+ℤ◌, ◌-ℤ◌, ◌*ℤ◌, List, length}
use Rattle.weight_rows.specs.declared.entries.Entry.{Entry}
use Rattle.weight_rows.specs.Rows.{weight_in, portfolio_price}
use Rattle.flow_accounts.specs.Balances.{Account, Balances, IsAccount, IsAsset, account_count, money_of, units_of, units_in}
use Rattle.flow_accounts.specs.Lawful.{AreLawful}

-- the account gets each asset's weight times the rate in units; the exchange gives them and gets their cost; nothing else changes
pub record MovesRow (prices : List ℤ) (account rate : ℕ) (row : List Entry) (old new : Balances) (exchange_old exchange_new : Account) : Type 0 where
  pub lawful : AreLawful new
  pub accounts : account_count new ≡ account_count old
  pub credits : new.credits ≡ old.credits
  pub totals : new.totals ≡ old.totals
  pub money : (any : ℕ) → money_of new any ≡ money_of old any
  pub units : (asset : ℕ) → units_of new account asset ≡ units_of old account asset +ℤ weight_in row asset *ℤ pos rate
  pub others : (other asset : ℕ) → IsAccount old other → other ≢ account → units_of new other asset ≡ units_of old other asset
  pub exchange_money : exchange_new.money ≡ exchange_old.money +ℤ pos rate *ℤ portfolio_price row prices
  pub exchange_units : (asset : ℕ) → IsAsset old asset → units_in exchange_new asset ≡ units_in exchange_old asset -ℤ weight_in row asset *ℤ pos rate
  pub exchange_count : length exchange_new.units ≡ length exchange_old.units
