use Rattle.std.proofs.Common.{FitsSigned, rules, w64}
use Rattle.std.proofs.lemmas.Int.{to_z-of_z}
use Rattle.single_bisect.proofs.Answered.{IsGreatestTrue-before}
use Rattle.single_bisect.proofs.greatest.greatest_true.Goals as goal

pub returns-clause-greatest : goal.returns-clause-greatest
returns-clause-greatest g c =
    let low = to_z-of_z w64 c.args.low c.ranges.low in
    let high = to_z-of_z w64 c.args.high c.ranges.high in
    let fits : FitsSigned w64 c.last_before_turn.result = search rules in
    let place = to_z-of_z w64 c.last_before_turn.result fits in
    let turn = rw (low, high) at c.last_before_turn.ensures.last in
    rw place (IsGreatestTrue-before _ _ _ _ c.requires.true_at_low turn)
