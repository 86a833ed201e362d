-- The lines of an account that has nothing.
use Rattle.std.specs.Prelude.{ℕ, ℤ, pos}
use Rattle.flow_accounts.specs.Lines.{Line, new_line}

-- the line of an account without credit
abbrev pub no_line : ℕ → Line ℕ ℕ
no_line assets = new_line assets 0 0

-- a line without any asset, which holds nothing
abbrev pub no_holding : Line ℤ ℤ
no_holding = new_line 0 (pos 0) (pos 0)
