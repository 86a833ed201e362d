use Rattle.joint_prices.proofs.Gathering.{IsGathering}
use Rattle.joint_prices.proofs.systems.gather.Given as goal

abbrev pub invariant-loop-i : goal.invariant-loop-i
invariant-loop-i l = IsGathering l.orders l.order_states l.fn.grid l.fn.right l.i l.grid l.right
