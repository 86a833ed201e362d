-- The balances of all accounts, and what each command does to them. Money is one more asset: its kind is `None`, and that of an asset
-- is `Some` of its number.
use Rattle.std.specs.Prelude.{ℕ, ◌-◌, ◌*◌, ◌^◌, ◌<◌, ◌≤◌, ℤ, pos, ◌+ℤ◌, List, [], ◌∷◌, ◌++◌, length, map, replicate, slice_index_or, slice_set, Option, Some, None}

-- an account: its money in grains, and its units of each asset
pub record Account : Type 0 where
  pub money : ℤ
  pub units : List ℤ

-- a credit line: how many ticks, and how many units of each asset, an account may owe for its orders
pub record Credit : Type 0 where
  pub ticks : ℕ
  pub units : List ℕ

-- all accounts, the credit line of each, and the totals of deposits less withdrawals, as an account
pub record Balances : Type 0 where
  pub accounts : List Account
  pub credits : List Credit
  pub totals : Account

-- no account and no asset
abbrev pub no_balances : Balances
no_balances = record { accounts = []; credits = []; totals = record { money = pos 0; units = [] } }

-- how many accounts there are
abbrev pub account_count : Balances → ℕ
account_count b = length b.accounts

-- how many assets there are
abbrev pub asset_count : Balances → ℕ
asset_count b = length b.totals.units

-- accounts are numbered from 1
abbrev pub IsAccount : Balances → ℕ → Type 0
IsAccount b account = (0 < account) × (account ≤ account_count b)

-- assets are numbered from 0
abbrev pub IsAsset : Balances → ℕ → Type 0
IsAsset b asset = asset < asset_count b

-- money is always there, an asset once it was added
abbrev pub IsKind : Balances → Option ℕ → Type 0
IsKind b None = Unit {0}
IsKind b (Some asset) = IsAsset b asset

-- how much a count is: so many ticks in grains, of which a tick has 2^32, and so many units as they are
abbrev pub value_of : Option ℕ → ℕ → ℤ
value_of None ticks = pos (2 ^ 32 * ticks)
value_of (Some asset) units = pos units

-- an account that holds nothing, with a balance of 0 for each asset
abbrev pub empty_account : ℕ → Account
empty_account assets = record { money = pos 0; units = replicate assets (pos 0) }

-- the account with this number, which has to be there
abbrev pub account_of : Balances → ℕ → Account
account_of b account = slice_index_or b.accounts (account - 1) (empty_account 0)

-- the balance of a kind in one account, in grains or in units
abbrev pub balance_in : Account → Option ℕ → ℤ
balance_in a None = a.money
balance_in a (Some asset) = slice_index_or a.units asset (pos 0)

-- an account's balance of a kind
abbrev pub balance_of : Balances → ℕ → Option ℕ → ℤ
balance_of b account kind = balance_in (account_of b account) kind

-- a credit line that allows nothing
abbrev pub no_credit : ℕ → Credit
no_credit assets = record { ticks = 0; units = replicate assets 0 }

-- the credit line of the account with this number, which has to be there
abbrev pub credit_of : Balances → ℕ → Credit
credit_of b account = slice_index_or b.credits (account - 1) (no_credit 0)

-- the credit of a kind in one credit line, in ticks or in units
abbrev pub credit_in : Credit → Option ℕ → ℕ
credit_in c None = c.ticks
credit_in c (Some asset) = slice_index_or c.units asset 0

-- what an account may use for its orders: its balance, and its credit
abbrev pub balance_with_credit : Balances → ℕ → Option ℕ → ℤ
balance_with_credit b account kind = balance_of b account kind +ℤ value_of kind (credit_in (credit_of b account) kind)

-- the total of a kind, in grains or in units
abbrev pub total_of : Balances → Option ℕ → ℤ
total_of b kind = balance_in b.totals kind

-- the balances after one more account was opened: it holds nothing and has no credit
abbrev pub open_account : Balances → Balances
open_account b = record b {
  accounts = b.accounts ++ empty_account (asset_count b) ∷ [];
  credits = b.credits ++ no_credit (asset_count b) ∷ [];
}

-- an account after one more asset was added, of which it holds no unit
abbrev pub with_asset : Account → Account
with_asset a = record a { units = a.units ++ pos 0 ∷ [] }

-- a credit line after one more asset was added, of which it allows no unit
abbrev pub with_credit_place : Credit → Credit
with_credit_place c = record c { units = c.units ++ 0 ∷ [] }

-- the balances after one more asset was added, of which all balances, all credits and the total are 0
abbrev pub add_asset : Balances → Balances
add_asset b = record { accounts = map with_asset b.accounts; credits = map with_credit_place b.credits; totals = with_asset b.totals }

-- one account after a balance changed by the amount
abbrev pub moved_in : Account → Option ℕ → ℤ → Account
moved_in a None amount = record a { money = a.money +ℤ amount }
moved_in a (Some asset) amount = record a { units = slice_set a.units asset (balance_in a (Some asset) +ℤ amount) }

-- the balances after one of an account changed by the amount, in grains or in units; the total stays
abbrev pub move_balance : Balances → ℕ → Option ℕ → ℤ → Balances
move_balance b account kind amount = record b { accounts = slice_set b.accounts (account - 1) (moved_in (account_of b account) kind amount) }

-- the balances after one of an account and the total of its kind changed by the amount, in grains or in units
abbrev pub change_balance : Balances → ℕ → Option ℕ → ℤ → Balances
change_balance b account kind amount = record (move_balance b account kind amount) { totals = moved_in b.totals kind amount }

-- a credit line after the credit of a kind was set
abbrev pub credited : Credit → Option ℕ → ℕ → Credit
credited c None ticks = record c { ticks = ticks }
credited c (Some asset) units = record c { units = slice_set c.units asset units }

-- the balances after an account's credit of a kind was set, in ticks or in units
abbrev pub set_credit : Balances → ℕ → Option ℕ → ℕ → Balances
set_credit b account kind count = record b { credits = slice_set b.credits (account - 1) (credited (credit_of b account) kind count) }

-- ---- of money and of units, by names of their own

-- so many ticks in grains
abbrev pub grains : ℕ → ℤ
grains ticks = value_of None ticks

-- the money that an account holds, in grains
abbrev pub money_of : Balances → ℕ → ℤ
money_of b account = balance_of b account None

-- the units of an asset in one account
abbrev pub units_in : Account → ℕ → ℤ
units_in a asset = balance_in a (Some asset)

-- the units of an asset that an account holds
abbrev pub units_of : Balances → ℕ → ℕ → ℤ
units_of b account asset = balance_of b account (Some asset)

-- an account's credit in money, in ticks
abbrev pub money_credit_of : Balances → ℕ → ℕ
money_credit_of b account = credit_in (credit_of b account) None

-- an account's credit in an asset, in units
abbrev pub unit_credit_of : Balances → ℕ → ℕ → ℕ
unit_credit_of b account asset = credit_in (credit_of b account) (Some asset)

-- an account's money and its credit, in grains
abbrev pub money_with_credit : Balances → ℕ → ℤ
money_with_credit b account = balance_with_credit b account None

-- an account's units of an asset and its credit
abbrev pub units_with_credit : Balances → ℕ → ℕ → ℤ
units_with_credit b account asset = balance_with_credit b account (Some asset)

-- the total of an asset, in units
abbrev pub total_units_of : Balances → ℕ → ℤ
total_units_of b asset = total_of b (Some asset)
