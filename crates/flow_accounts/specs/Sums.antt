-- What all accounts hold together.
use Rattle.std.specs.Prelude.{◌≡◌, ℕ, ℤ, Option, Some, None}
use Rattle.list_sums.specs.Sums.{int_sum_by}
use Rattle.flow_accounts.specs.Balances.{Balances, balance_in, total_of}

-- what all accounts hold together of a kind, in grains or in units
abbrev pub balance_of_all : Balances → Option ℕ → ℤ
balance_of_all b kind = int_sum_by (λ a. balance_in a kind) b.accounts

-- the money of all accounts, in grains
abbrev pub money_of_all : Balances → ℤ
money_of_all b = balance_of_all b None

-- the units of an asset that all accounts hold together
abbrev pub units_of_all : Balances → ℕ → ℤ
units_of_all b asset = balance_of_all b (Some asset)

-- the totals are what all accounts hold together
pub record TotalsAreSums (b : Balances) : Type 0 where
  pub money : total_of b None ≡ balance_of_all b None
  pub units : (asset : ℕ) → total_of b (Some asset) ≡ balance_of_all b (Some asset)
