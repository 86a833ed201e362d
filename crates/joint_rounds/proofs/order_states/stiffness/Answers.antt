use Rattle.std.proofs.Common.{arith}
use Rattle.std.specs.Int.{w128}
use Rattle.std.proofs.lemmas.Int.{to_z-of_z}
use Rattle.joint_rounds.proofs.StateFacts.{stiff_is}
use Rattle.joint_rounds.proofs.order_states.stiffness.Goals as goal

pub returns : goal.returns
returns c =
    let v = to_z-of_z w128 c.args.v c.ranges.v in
    let up = rw v at c.or_zero.ensures.value in
    let n = to_z-of_z w128 c.negated.result (record { sfits = c.negated.type_inv }) in
    let opposite = rw v at c.negated.ensures.value in
    let down = rw (n, opposite) at c.or_zero-2.ensures.value in
    rw c.from-3.ensures (record {
      value = stiff_is c.args.m c.args.line c.args.share c.args.v c.bent_line.result c.times_share-up.result c.times_share-down.result c.bent_line.ensures.value
          (rw (up, c.from-m.ensures, c.from.ensures) at c.times_share-up.ensures.value)
          (rw (down, c.from-m.ensures, c.from-2.ensures) at c.times_share-down.ensures.value);
      some = omega arith;
      most = omega (arith, c.bent_line.ensures.most, c.times_share-up.ensures.most, c.times_share-down.ensures.most, c.from.ensures, c.from-2.ensures, c.requires.share.1);
    })
