use Rattle.std.proofs.Common.{◌≡◌, ◌++◌, length, take, drop}
use Rattle.std.specs.Prelude.{All}
use Rattle.joint_prices.specs.OrderStates.{IsShare}
use Rattle.joint_rounds.specs.Steps.{shared}
use Rattle.joint_rounds.proofs.moving.share_all.Given as goal

abbrev pub invariant-loop-i : goal.invariant-loop-i
invariant-loop-i l =
    (shared l.by l.orders l.states ≡ take l.i l.shares ++ shared l.by (drop l.i l.orders) (drop l.i l.states)) × (length l.shares ≡ length l.orders) × All IsShare l.shares
