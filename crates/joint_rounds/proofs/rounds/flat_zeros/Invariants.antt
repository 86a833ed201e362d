use Rattle.std.proofs.Common.{◌≡◌, length}
use Rattle.std.specs.Prelude.{All}
use Rattle.joint_rounds.specs.Sums.{IsFlat}
use Rattle.joint_rounds.proofs.rounds.flat_zeros.Given as goal

abbrev pub invariant-loop-a : goal.invariant-loop-a
invariant-loop-a l = (length l.flat.items ≡ l._a) × All IsFlat l.flat.items
