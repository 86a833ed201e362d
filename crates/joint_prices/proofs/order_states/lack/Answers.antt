use Rattle.std.proofs.Common.{◌-ℤ◌, arith}
use Rattle.std.specs.Int.{w128}
use Rattle.std.proofs.lemmas.Int.{ints, to_z-of_z, fits_signed_from_abs}
use Rattle.joint_prices.proofs.OrderStateFacts.{lack_is}
use Rattle.joint_prices.proofs.order_states.lack.Goals as goal

pub returns-clause-value : goal.returns-clause-value
returns-clause-value c =
    let v = to_z-of_z w128 c.args.v c.ranges.v in
    let a = to_z-of_z w128 c.barrier_force.result (record { sfits = c.barrier_force.type_inv }) in
    let b = to_z-of_z w128 c.barrier_force-2.result (record { sfits = c.barrier_force-2.type_inv }) in
    let d = to_z-of_z w128 (c.barrier_force.result -ℤ c.barrier_force-2.result) (fits_signed_from_abs w128 _ (omega (arith, ints, c.barrier_force.ensures.small, c.barrier_force-2.ensures.small))) in
    let e = to_z-of_z w128 (c.barrier_force.result -ℤ c.barrier_force-2.result -ℤ c.args.v) (fits_signed_from_abs w128 _ (omega (arith, ints, c.barrier_force.ensures.small, c.barrier_force-2.ensures.small, c.requires.v))) in
    rw (v, a, b, d, e) (lack_is c.args.tau c.args.share c.args.v c.barrier_force.result c.barrier_force-2.result (rw c.from.ensures at c.barrier_force.ensures.value) (rw c.from-2.ensures at c.barrier_force-2.ensures.value))
