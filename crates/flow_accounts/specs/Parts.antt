-- Balances that are read number by number, and how the fields of an `Accounts` are made from them.
use Rattle.std.specs.Prelude.{◌≡◌, ℕ, ℤ, pos, List, length, map, take}
use Rattle.std.specs.List.{All}
use Rattle.flow_accounts.specs.Balances.{Account, Credit, Balances, account_count, asset_count}
use Rattle.flow_accounts.specs.CreditLines.{Credits}
use Rattle.flow_accounts.specs.Lines.{Table}
use Rattle.flow_accounts.specs.Places.{account_in, credit_line_in, HasSpare}

-- each account has one balance and one credit for each asset, and there is one credit line for each account
pub record HasOneOfEach (b : Balances) : Type 0 where
  pub accounts : All (λ (a : Account). length a.units ≡ asset_count b) b.accounts
  pub lines : length b.credits ≡ account_count b
  pub credits : All (λ (c : Credit). length c.units ≡ asset_count b) b.credits

-- an array by assets: the first `count` places hold the first of these numbers, and the others 0
pub record ArePlacesOf (count : ℕ) (units places : List ℤ) : Type 0 where
  pub spare : HasSpare count places
  pub first : take count places ≡ take count units

-- what the fields hold of the first `count` accounts, in their order
pub record AreHoldingsOf (b : Balances) (count : ℕ) (holdings : Table ℤ ℤ) : Type 0 where
  pub accounts : map account_in holdings.lines ≡ take count b.accounts
  pub assets : holdings.assets ≡ asset_count b
  pub none : holdings.none ≡ pos 0

-- what the fields have of the credits of the first `count` accounts, in their order
pub record AreCreditLinesOf (b : Balances) (count : ℕ) (lines : Credits) : Type 0 where
  pub credits : map credit_line_in lines.lines ≡ take count b.credits
  pub assets : lines.assets ≡ asset_count b
