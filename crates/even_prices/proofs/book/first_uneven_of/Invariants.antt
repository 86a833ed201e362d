use Rattle.std.proofs.Common.{ℕ, ◌<◌}
use Rattle.even_prices.specs.Even.{IsEven}
use Rattle.even_prices.proofs.book.first_uneven_of.Given as goal

abbrev pub invariant-loop-asset : goal.invariant-loop-asset
invariant-loop-asset l = (earlier : ℕ) → earlier < l.asset → IsEven l.orders l.prices earlier
