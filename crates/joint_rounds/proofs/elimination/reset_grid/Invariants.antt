use Rattle.std.proofs.Common.{◌≡◌, length, map, take, drop}
use Rattle.std.specs.List.{range_with_len}
use Rattle.joint_rounds.specs.Elimination.{diagonal}
use Rattle.joint_rounds.proofs.elimination.reset_grid.Given as goal

abbrev pub invariant-loop-a : goal.invariant-loop-a
invariant-loop-a l =
    (take l.a l.grid ≡ map (λ a. map (diagonal a) (range_with_len 0 (length l.fn.grid))) (range_with_len 0 l.a))
    × (drop l.a l.grid ≡ drop l.a l.fn.grid)
    × (length l.grid ≡ length l.fn.grid)
