use Rattle.std.proofs.Common.{◌≡◌, ◌++◌, length, take, drop}
use Rattle.joint_rounds.specs.Steps.{order_states}
use Rattle.joint_rounds.proofs.moving.state_all.Given as goal

abbrev pub invariant-loop-i : goal.invariant-loop-i
invariant-loop-i l =
    (order_states l.s l.prices l.orders l.shares ≡ take l.i l.states ++ order_states l.s l.prices (drop l.i l.orders) (drop l.i l.shares)) × (length l.states ≡ length l.orders)
