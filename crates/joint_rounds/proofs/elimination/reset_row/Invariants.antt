use Rattle.std.proofs.Common.{◌≡◌, length, map, take}
use Rattle.std.specs.List.{range_with_len}
use Rattle.joint_rounds.specs.Elimination.{diagonal}
use Rattle.joint_rounds.proofs.elimination.reset_row.Given as goal

abbrev pub invariant-loop-other : goal.invariant-loop-other
invariant-loop-other l = (take l.other l.sums ≡ map (diagonal l.asset) (range_with_len 0 l.other)) × (length l.sums ≡ length l.fn.sums)
