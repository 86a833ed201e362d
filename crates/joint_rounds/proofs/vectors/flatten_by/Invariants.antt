use Rattle.std.proofs.Common.{◌≡◌, ◌++◌, length, map, take, drop}
use Rattle.std.specs.Prelude.{All}
use Rattle.joint_rounds.specs.Rounds.{flat_by}
use Rattle.joint_rounds.specs.Sums.{IsFlat}
use Rattle.joint_rounds.proofs.vectors.flatten_by.Given as goal

abbrev pub invariant-loop-a : goal.invariant-loop-a
invariant-loop-a l =
    (map (flat_by l.top) l.ds ≡ take l.a l.into ++ map (flat_by l.top) (drop l.a l.ds)) × (length l.into ≡ length l.ds) × All IsFlat l.into
