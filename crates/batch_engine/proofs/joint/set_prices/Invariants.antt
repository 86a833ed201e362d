use Rattle.std.proofs.Common.{◌≡◌, length, take}
use Rattle.batch_engine.proofs.joint.set_prices.Given as goal

abbrev pub invariant-loop-asset : goal.invariant-loop-asset
invariant-loop-asset l = (l.work.orders ≡ l.fn.work.orders) × (length l.work.prices ≡ length l.fn.work.prices) × (take l.asset l.work.prices ≡ take l.asset l.prices)
