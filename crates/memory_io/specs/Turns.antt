use Rattle.std.specs.Prelude.{ℕ, ◌+◌, ◌<◌, ◌≤◌, List, Contains}
use Rattle.memory_io.specs.declared.turns.Turn.{Turn}
use Rattle.memory_io.specs.declared.turns.Turn.TheVariants.{Past, Listed, Free}

-- whether the next call is past the most, listed, or neither
abbrev pub IsTurn : Turn → List ℕ → ℕ → ℕ → Type 0
IsTurn Past failing most made = most ≤ made
IsTurn Listed failing most made = (made < most) × Contains failing (made + 1)
IsTurn Free failing most made = (made < most) × (¬ Contains failing (made + 1))
