use Rattle.std.proofs.Common.{◌^◌}
use Rattle.joint_rounds.specs.Rounds.{aim_part}
use Rattle.joint_rounds.proofs.Gathering.{IsGathering}
use Rattle.joint_rounds.proofs.sums.gather_aims.Given as goal

abbrev pub invariant-loop-i : goal.invariant-loop-i
invariant-loop-i l = IsGathering (2 ^ 71) aim_part l.orders l.states l.fn.sums l.i l.sums
