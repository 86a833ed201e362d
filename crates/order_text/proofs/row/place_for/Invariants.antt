use Rattle.std.proofs.Common.{length, ◌-◌}
use Rattle.order_text.proofs.Rows.{PutsAfter}
use Rattle.order_text.proofs.row.place_for.Given as goal

abbrev pub invariant-loop-place : goal.invariant-loop-place
invariant-loop-place l = PutsAfter l.row l.asset l.place

abbrev pub decreases-loop-place : goal.decreases-loop-place
decreases-loop-place l = length l.row - l.place
