use Rattle.std.proofs.Common.{◌≡◌}
use Rattle.coordinate_search.proofs.Settling.{IsSettling}
use Rattle.coordinate_search.proofs.single.settle_single.Given as goal

abbrev pub invariant-loop-asset : goal.invariant-loop-asset
invariant-loop-asset l = (l.work.orders ≡ l.fn.work.orders) × IsSettling l.parts l.fn.work.orders l.fn.work.prices l.work.prices l.asset
