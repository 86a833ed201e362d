-- The credit lines of all accounts, of which only the first ones are stored.
use Rattle.std.specs.Prelude.{◌≡◌, ◌-◌, ◌≤◌, ◌++◌, length, replicate}
use Rattle.flow_accounts.specs.declared.credit_lines.CreditLines.TheInside.{Inside}
use Rattle.flow_accounts.specs.CreditLines.{Credits}
use Rattle.flow_accounts.specs.NoCredit.{no_line}

-- the lines that the fields represent: those that are stored, and for each later account that of no credit
abbrev pub credits_in : Inside → Credits
credits_in c = record { assets = c.stored.assets; lines = c.stored.lines ++ replicate (c.count - length c.stored.lines) (no_line c.stored.assets) }

-- no more lines are stored than there are accounts, there is room for all, and a new line is all 0
pub record AreStored (c : Inside) : Type 0 where
  pub few : length c.stored.lines ≤ c.count
  pub room : c.count ≤ c.stored.room
  pub none : c.stored.none ≡ 0
