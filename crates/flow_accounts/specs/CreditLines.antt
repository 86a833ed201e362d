-- The credit lines of all accounts.
use Rattle.std.specs.Prelude.{ℕ, List}
use Rattle.flow_accounts.specs.Lines.{Line}

-- the lines of all accounts, with a credit in each of so many assets
pub record Credits : Type 0 where
  pub assets : ℕ
  pub lines : List (Line ℕ ℕ)
