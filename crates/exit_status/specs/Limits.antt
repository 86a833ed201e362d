-- The limit of the input.
use Rattle.std.specs.Prelude.{ℕ, ◌^◌}

-- the most bytes of input that each subcommand considers
abbrev pub input_limit : ℕ
input_limit = 2 ^ 40
