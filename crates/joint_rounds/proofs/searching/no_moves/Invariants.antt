use Rattle.std.proofs.Common.{◌≡◌, length}
use Rattle.std.specs.Prelude.{All}
use Rattle.weight_rows.specs.Rows.{IsPrice}
use Rattle.joint_rounds.proofs.searching.no_moves.Given as goal

abbrev pub invariant-loop-a : goal.invariant-loop-a
invariant-loop-a l = (length l.by.items ≡ l._a) × All IsPrice l.by.items
