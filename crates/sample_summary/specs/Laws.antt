-- Laws of summaries, whatever code makes them.
use Rattle.std.specs.Prelude.{◌≡◌, ℕ, List}
use Rattle.sample_summary.specs.Summary.{Summarizes}

-- a sample has one line
abbrev pub OneSummary : Type 0
OneSummary = (number orders : ℕ) (x y : List ℕ) → Summarizes number orders x → Summarizes number orders y → x ≡ y
