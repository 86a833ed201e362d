use Rattle.joint_rounds.proofs.Pairing.{IsPairing}
use Rattle.joint_rounds.proofs.elimination.gather_pairs.Given as goal

abbrev pub invariant-loop-i : goal.invariant-loop-i
invariant-loop-i l = IsPairing l.orders l.states l.fn.grid l.i l.grid
