-- Sums of needs while the legs of an order are gone through.
use Rattle.std.proofs.Common.{◌≡◌, ℕ, ◌+◌, ◌≤◌, List, take}
use Rattle.indexmap.specs.IndexMap.{spare}
use Rattle.weight_rows.specs.declared.entries.Entry.{Entry}
use Rattle.order_book.specs.declared.sums.Need.{Need}
use Rattle.order_book.specs.Sums.{Table, sum_in}
use Rattle.order_book.specs.Needs.{entries_need}

-- the sums are raised by what the first i legs need
pub record IsRaised (account units : ℕ) (entries : List Entry) (old new : Table) (i : ℕ) : Type 0 where
  pub sums : (need : Need) → sum_in new need ≡ sum_in old need + entries_need account units need (take i entries)
  pub room : spare old ≤ spare new + i

-- the sums are lowered by what the first i legs need
pub record IsLowered (account units : ℕ) (entries : List Entry) (old new : Table) (i : ℕ) : Type 0 where
  pub sums : (need : Need) → sum_in new need + entries_need account units need (take i entries) ≡ sum_in old need
  pub room : spare old ≤ spare new
