use Rattle.std.proofs.Common.{◌≡◌, ℤ, List, length}
use Rattle.joint_prices.proofs.Reaching.{IsSearching}
use Rattle.joint_prices.proofs.searching.search.Given as goal

abbrev pub invariant-loop-step : goal.invariant-loop-step
invariant-loop-step g l =
    IsSearching (g.T.Settles.settled l.fn.test) l.orders l.start l._step l.tau l.prices l.shares
    × (length l.states ≡ length l.orders)
    × (length l.system ≡ length l.start)
    × ((p : List ℤ) → g.T.Settles.settled l.test p ≡ g.T.Settles.settled l.fn.test p)
    × (g.T.Settles.assets l.test ≡ g.T.Settles.assets l.fn.test)
    × (g.T.Settles.orders l.test ≡ g.T.Settles.orders l.fn.test)
