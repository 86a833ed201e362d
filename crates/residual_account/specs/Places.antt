-- The account that the fields of a `ResidualAccount` represent. There is a place for the units of each asset that there may be,
-- and as many places are in use as there are assets.
use Rattle.std.specs.Prelude.{◌≤◌, take}
use Rattle.flow_accounts.specs.Balances.{Account}
use Rattle.flow_accounts.specs.Lawful.{most_assets}
use Rattle.flow_accounts.specs.Places.{HasSpare}
use Rattle.residual_account.specs.declared.ResidualAccount.TheInside.{Inside}

-- the account that the fields represent
abbrev pub account_in : Inside → Account
account_in a = record { money = a.money; units = take a.assets a.units }

-- the invariant of the fields
pub record IsKept (a : Inside) : Type 0 where
  pub few_assets : a.assets ≤ most_assets
  pub places : HasSpare a.assets a.units
