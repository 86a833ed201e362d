use Rattle.std.proofs.Common.{◌≡◌, drop}
use Rattle.joint_rounds.specs.Rounds.{is_little}
use Rattle.joint_rounds.proofs.vectors.is_little.Given as goal

abbrev pub invariant-loop-a : goal.invariant-loop-a
invariant-loop-a l = is_little l.left l.open_parts ≡ is_little (drop l.a l.left) (drop l.a l.open_parts)
