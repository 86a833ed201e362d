use Rattle.std.proofs.Common.{◌≡◌, ℤ, List, length, true}
use Rattle.std.specs.Prelude.{All}
use Rattle.weight_rows.specs.Rows.{IsPrice}
use Rattle.joint_rounds.proofs.Reaching.{IsSearching}
use Rattle.joint_rounds.proofs.searching.search.Given as goal

abbrev pub invariant-loop-step : goal.invariant-loop-step
invariant-loop-step g l =
    IsSearching (g.T.TestsEven.even l.fn.test) (g.T.TestsEven.open_parts l.fn.test) l.direct l.fall l.orders l.start l._step l.s l.prices l.shares
    × (length l.states ≡ length l.orders)
    × (length l.by ≡ length l.start)
    × All IsPrice l.by
    × (length l.open_parts ≡ length l.start)
    × (l.rounds ≡ length l.start)
    × (l.direct ≡ true → l.elimination ≡ length l.start)
    × ((p : List ℤ) → g.T.TestsEven.even l.test p ≡ g.T.TestsEven.even l.fn.test p)
    × ((p : List ℤ) → g.T.TestsEven.open_parts l.test p ≡ g.T.TestsEven.open_parts l.fn.test p)
    × (g.T.TestsEven.assets l.test ≡ g.T.TestsEven.assets l.fn.test)
    × (g.T.TestsEven.orders l.test ≡ g.T.TestsEven.orders l.fn.test)
