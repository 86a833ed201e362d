use Rattle.std.proofs.Common.{◌≡◌, length, map, take}
use Rattle.std.specs.List.{range_with_len}
use Rattle.joint_rounds.proofs.VectorFacts.{cut_at}
use Rattle.joint_rounds.proofs.vectors.cut_all.Given as goal

abbrev pub invariant-loop-a : goal.invariant-loop-a
invariant-loop-a l = (take l.a l.into ≡ map (cut_at l.sums l.e) (range_with_len 0 l.a)) × (length l.into ≡ length l.sums)
