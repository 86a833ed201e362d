use Rattle.std.specs.Int.{w128}
use Rattle.std.proofs.lemmas.Int.{to_z-of_z}
use Rattle.joint_prices.proofs.OrderStateFacts.{stiff_is}
use Rattle.joint_prices.proofs.order_states.stiffness.Goals as goal

pub returns-clause-value : goal.returns-clause-value
returns-clause-value c =
    let v = to_z-of_z w128 c.args.v c.ranges.v in
    let up = rw v at c.or_zero.ensures.value in
    let n = to_z-of_z w128 c.negated.result (record { sfits = c.negated.type_inv }) in
    let opposite = rw v at c.negated.ensures.value in
    let down = rw (n, opposite) at c.or_zero-2.ensures.value in
    stiff_is c.args.tau c.args.line c.args.share c.over_share.result c.over_share-2.result c.args.v
    (rw (up, c.from-tau.ensures, c.from.ensures) at c.over_share.ensures.value)
    (rw (down, c.from-tau.ensures, c.from-2.ensures) at c.over_share-2.ensures.value)
