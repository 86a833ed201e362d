-- The balances that the fields of an `Accounts` represent. The lines have an amount for each asset. The totals have a place for each
-- asset that there may be: as many places as there are assets are in use, and the others are 0.
use Rattle.std.specs.Prelude.{◌≡◌, ℕ, ◌≤◌, ℤ, pos, List, length, map, take, slice_index_or}
use Rattle.flow_accounts.specs.declared.Accounts.TheInside.{Inside}
use Rattle.flow_accounts.specs.Balances.{Account, Credit, Balances}
use Rattle.flow_accounts.specs.Lawful.{most_assets, AreLawful}
use Rattle.flow_accounts.specs.Lines.{Line}

-- the account that a line represents
abbrev pub account_in : Line ℤ ℤ → Account
account_in l = record { money = l.money; units = l.units }

-- the credit line that a line represents
abbrev pub credit_line_in : Line ℕ ℕ → Credit
credit_line_in l = record { ticks = l.money; units = l.units }

-- the balances that the fields represent
abbrev pub balances_in : Inside → Balances
balances_in a = record {
  accounts = map account_in a.holdings.lines;
  credits = map credit_line_in a.credits.lines;
  totals = record { money = a.total_money; units = take a.holdings.assets a.total_units };
}

-- there is a place for the units of each asset that there may be, and the places that aren't in use are 0
pub record HasSpare (assets : ℕ) (places : List ℤ) : Type 0 where
  pub places_made : length places ≡ most_assets
  pub zero_beyond : (k : ℕ) → assets ≤ k → slice_index_or places k (pos 0) ≡ pos 0

-- the invariant of the fields
pub record AreKept (a : Inside) : Type 0 where
  pub lawful : AreLawful (balances_in a)
  pub few_assets : a.holdings.assets ≤ most_assets
  pub totals : HasSpare a.holdings.assets a.total_units
  pub none : a.holdings.none ≡ pos 0
  pub credits : a.credits.assets ≡ a.holdings.assets
