use Rattle.std.proofs.Common.{◌≡◌, map, take, length}
use Rattle.std.specs.List.{range_with_len}
use Rattle.excess_bounds.specs.Columns.{column_of}
use Rattle.excess_bounds.proofs.columns.columns_of.Given as goal

abbrev pub invariant-loop-place : goal.invariant-loop-place
invariant-loop-place l = l.columns.items ≡ map (column_of (take l.place l.orders)) (range_with_len 0 (length l.prices))
