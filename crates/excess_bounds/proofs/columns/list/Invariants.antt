use Rattle.std.proofs.Common.{◌≡◌, ◌+◌, ◌≤◌, drop, length}
use Rattle.std.specs.Prelude.{All}
use Rattle.excess_bounds.specs.Private.{listed}
use Rattle.excess_bounds.proofs.columns.list.Given as goal

abbrev pub invariant-loop-entry : goal.invariant-loop-entry
invariant-loop-entry l =
    (listed l.fn.place (drop l.entry-index l.entry-items) l.columns ≡ listed l.fn.place l.entry-items l.fn.columns)
    × (length l.columns ≡ length l.fn.columns)
    × All (λ c. length c ≤ l.fn.place + l.entry-index) l.columns
