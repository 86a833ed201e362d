-- Definitions that only private functions use: a line in parts.
use Rattle.std.specs.Prelude.{ℕ, List, ◌++◌, Option, None, Some, decimal}

-- the line of a status: a text, or a number between two texts
abbrev pub line_in : List ℕ → Option ℕ → List ℕ → List ℕ
line_in before None after = before
line_in before (Some number) after = before ++ decimal number ++ after
