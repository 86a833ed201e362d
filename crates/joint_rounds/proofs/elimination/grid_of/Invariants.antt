use Rattle.std.proofs.Common.{◌≡◌}
use Rattle.std.specs.Prelude.{All}
use Rattle.std.proofs.Common.{length}
use Rattle.joint_rounds.proofs.elimination.grid_of.Given as goal

abbrev pub invariant-loop-a : goal.invariant-loop-a
invariant-loop-a l = (length l.grid.items ≡ l._a) × All (λ s. length s ≡ l.count) l.grid.items
