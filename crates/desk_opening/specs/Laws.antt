-- Laws of how inputs begin.
use Rattle.std.specs.Prelude.{◌≡◌, ℕ, List, ◌++◌}
use Rattle.market_history.specs.Histories.{Start, CanStart}
use Rattle.desk_opening.specs.Beginnings.{bytes_before}

-- an input begins in at most one way, and leaves one rest
abbrev pub OneBeginning : Type 0
OneBeginning = (a b : Start) (x y : List ℕ) → CanStart a → CanStart b → bytes_before a ++ x ≡ bytes_before b ++ y → (a ≡ b) × (x ≡ y)
