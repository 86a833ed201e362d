use Rattle.std.proofs.Common.{ℕ, ◌<◌}
use Rattle.even_prices.specs.Even.{IsEven}
use Rattle.even_prices.proofs.testing.first_uneven.Given as goal

abbrev pub invariant-loop-asset : goal.invariant-loop-asset
invariant-loop-asset l = (earlier : ℕ) → earlier < l.asset → IsEven l.work.orders l.work.prices earlier
