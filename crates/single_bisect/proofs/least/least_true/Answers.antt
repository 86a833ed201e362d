use Rattle.std.proofs.Common.{arith, w64}
use Rattle.std.proofs.lemmas.Int.{ints, to_z-of_z}
use Rattle.single_bisect.proofs.Answered.{IsLeastTrue-after}
use Rattle.single_bisect.proofs.least.least_true.Goals as goal

pub returns-clause-least : goal.returns-clause-least
returns-clause-least g c =
    let low = to_z-of_z w64 c.args.low c.ranges.low in
    let high = to_z-of_z w64 c.args.high c.ranges.high in
    let turn = rw (low, high) at c.last_before_turn.ensures.last in
    IsLeastTrue-after _ _ _ _ _ c.requires.true_at_high turn (omega (arith, ints, turn))
