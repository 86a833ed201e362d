use Rattle.std.proofs.Common.{◌≡◌, ℕ, ◌<◌, false}
use Rattle.flow_orders.specs.Excess.{is_unsettled}
use Rattle.batch_engine.proofs.joint.are_settled.Given as goal

abbrev pub invariant-loop-asset : goal.invariant-loop-asset
invariant-loop-asset l = (a : ℕ) → a < l.asset → is_unsettled l.work.orders l.work.prices a ≡ false
