-- The line on a valid journal.
use Rattle.std.specs.Prelude.{ℕ, List, ◌++◌, codes, decimal}

-- the line on a journal, by the number of its entries and how many of their batches cleared and were skipped
abbrev pub counted_line : (pairs cleared skipped : ℕ) → List ℕ
counted_line pairs cleared skipped =
    (codes "legal: " ++ decimal pairs ++ codes " pairs, ") ++ (decimal cleared ++ codes " cleared, ") ++ (decimal skipped ++ codes " skipped\n")
