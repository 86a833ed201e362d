use Rattle.std.proofs.Common.{◌≡◌, [], map}
use Rattle.std.specs.List.{range_with_len}
use Rattle.excess_bounds.specs.Columns.{column_of}
use Rattle.excess_bounds.proofs.columns.no_cells.Given as goal

abbrev pub invariant-loop-asset : goal.invariant-loop-asset
invariant-loop-asset l = l.columns.items ≡ map (column_of []) (range_with_len 0 l._asset)
