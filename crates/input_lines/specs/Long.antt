-- How long a line may be.
use Rattle.std.specs.Prelude.{ℕ, ◌<◌, List, length}

-- the most bytes of a line before its line feed
abbrev pub most_line : ℕ
most_line = 65536

-- a line has more bytes than so many
abbrev pub IsLongerThan : ℕ → List ℕ → Type 0
IsLongerThan most line = most < length line

-- a line is too long
abbrev pub IsLong : List ℕ → Type 0
IsLong line = IsLongerThan most_line line
