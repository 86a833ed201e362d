-- What an operation on the balances changes, and what it leaves as it was.
use Rattle.std.specs.Prelude.{◌≡◌, ◌≢◌, ℕ, ◌+◌, ℤ, pos, ◌+ℤ◌}
use Rattle.flow_accounts.specs.Balances.{Balances, IsAccount, account_count, asset_count, money_of, units_of, money_credit_of, unit_credit_of, total_units_of}
use Rattle.flow_accounts.specs.Sums.{money_of_all, units_of_all}

-- no balance, no credit and no sum over the accounts changes
pub record KeepsBalances (old new : Balances) : Type 0 where
  pub money : (account : ℕ) → money_of new account ≡ money_of old account
  pub units : (account asset : ℕ) → units_of new account asset ≡ units_of old account asset
  pub money_credits : (account : ℕ) → money_credit_of new account ≡ money_credit_of old account
  pub unit_credits : (account asset : ℕ) → unit_credit_of new account asset ≡ unit_credit_of old account asset
  pub money_sum : money_of_all new ≡ money_of_all old
  pub unit_sums : (asset : ℕ) → units_of_all new asset ≡ units_of_all old asset

-- one balance of money rises by the amount, and with it the sum over all accounts; no other balance and no credit
-- changes
pub record ChangesMoneyOf (account : ℕ) (amount : ℤ) (old new : Balances) : Type 0 where
  pub credits : new.credits ≡ old.credits
  pub accounts : account_count new ≡ account_count old
  pub assets : asset_count new ≡ asset_count old
  pub money : money_of new account ≡ money_of old account +ℤ amount
  pub others : (other : ℕ) → IsAccount old other → other ≢ account →
      money_of new other ≡ money_of old other
  pub units : (any asset : ℕ) → units_of new any asset ≡ units_of old any asset
  pub money_sum : money_of_all new ≡ money_of_all old +ℤ amount
  pub unit_sums : (asset : ℕ) → units_of_all new asset ≡ units_of_all old asset

-- one balance of units rises by the amount, and with it the sum of the asset over all accounts; no other balance and
-- no credit changes
pub record ChangesUnitsOf (account asset : ℕ) (amount : ℤ) (old new : Balances) : Type 0 where
  pub credits : new.credits ≡ old.credits
  pub accounts : account_count new ≡ account_count old
  pub assets : asset_count new ≡ asset_count old
  pub units : units_of new account asset ≡ units_of old account asset +ℤ amount
  pub others : (other s : ℕ) → IsAccount old other → other ≢ account →
      units_of new other s ≡ units_of old other s
  pub other_assets : (s : ℕ) → s ≢ asset → units_of new account s ≡ units_of old account s
  pub money : (any : ℕ) → money_of new any ≡ money_of old any
  pub unit_sum : units_of_all new asset ≡ units_of_all old asset +ℤ amount
  pub other_sums : (s : ℕ) → s ≢ asset → units_of_all new s ≡ units_of_all old s
  pub money_sum : money_of_all new ≡ money_of_all old

-- the total of one asset changes by the amount, and no other total does
pub record ChangesTotalOf (asset : ℕ) (amount : ℤ) (old new : Balances) : Type 0 where
  pub total : total_units_of new asset ≡ total_units_of old asset +ℤ amount
  pub others : (s : ℕ) → s ≢ asset → total_units_of new s ≡ total_units_of old s
  pub money : new.totals.money ≡ old.totals.money

-- there is one more account, which holds nothing and has no credit
pub record OpensAccount (old new : Balances) : Type 0 where
  pub kept : KeepsBalances old new
  pub accounts : account_count new ≡ account_count old + 1
  pub assets : asset_count new ≡ asset_count old
  pub money : money_of new (account_count new) ≡ pos 0
  pub units : (asset : ℕ) → units_of new (account_count new) asset ≡ pos 0
  pub money_credit : money_credit_of new (account_count new) ≡ 0
  pub unit_credits : (asset : ℕ) → unit_credit_of new (account_count new) asset ≡ 0

-- there is one more asset, of which nobody holds a unit or has credit
pub record AddsAsset (old new : Balances) : Type 0 where
  pub kept : KeepsBalances old new
  pub accounts : account_count new ≡ account_count old
  pub assets : asset_count new ≡ asset_count old + 1
  pub units : (account : ℕ) → IsAccount old account → units_of new account (asset_count old) ≡ pos 0
  pub unit_credits : (account : ℕ) → IsAccount old account → unit_credit_of new account (asset_count old) ≡ 0
  pub unit_sum : units_of_all new (asset_count old) ≡ pos 0
  pub total : total_units_of new (asset_count old) ≡ pos 0
  pub totals : (asset : ℕ) → total_units_of new asset ≡ total_units_of old asset

-- one account's credit in money is set, in ticks, and nothing else changes
pub record SetsMoneyCreditOf (account ticks : ℕ) (old new : Balances) : Type 0 where
  pub accounts : new.accounts ≡ old.accounts
  pub total_money : new.totals.money ≡ old.totals.money
  pub total_units : new.totals.units ≡ old.totals.units
  pub credit : money_credit_of new account ≡ ticks
  pub others : (other : ℕ) → IsAccount old other → other ≢ account → money_credit_of new other ≡ money_credit_of old other
  pub unit_credits : (any asset : ℕ) → unit_credit_of new any asset ≡ unit_credit_of old any asset

-- one account's credit in one asset is set, in units, and nothing else changes
pub record SetsUnitCreditOf (account asset units : ℕ) (old new : Balances) : Type 0 where
  pub accounts : new.accounts ≡ old.accounts
  pub total_money : new.totals.money ≡ old.totals.money
  pub total_units : new.totals.units ≡ old.totals.units
  pub credit : unit_credit_of new account asset ≡ units
  pub other_assets : (s : ℕ) → s ≢ asset → unit_credit_of new account s ≡ unit_credit_of old account s
  pub others : (other s : ℕ) → IsAccount old other → other ≢ account → unit_credit_of new other s ≡ unit_credit_of old other s
  pub money_credits : (any : ℕ) → money_credit_of new any ≡ money_credit_of old any
