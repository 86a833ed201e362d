use Rattle.std.proofs.Common.{◌≡◌, ◌++◌, length, take, drop}
use Rattle.std.specs.Prelude.{All}
use Rattle.weight_rows.specs.Rows.{IsPrice}
use Rattle.joint_rounds.specs.Steps.{priced}
use Rattle.joint_rounds.proofs.moving.move_all.Given as goal

abbrev pub invariant-loop-a : goal.invariant-loop-a
invariant-loop-a l =
    (priced l.s l.fn.prices l.by ≡ take l.a l.prices ++ priced l.s (drop l.a l.fn.prices) (drop l.a l.by)) × (drop l.a l.prices ≡ drop l.a l.fn.prices) × (length l.prices ≡ length l.fn.prices) × All IsPrice l.prices
