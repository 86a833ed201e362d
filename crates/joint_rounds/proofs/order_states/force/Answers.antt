use Rattle.std.proofs.Common.{◌-ℤ◌, refl, arith}
use Rattle.std.specs.Int.{w128}
use Rattle.std.proofs.lemmas.Int.{ints, to_z-of_z, fits_signed_from_abs}
use Rattle.joint_rounds.proofs.order_states.force.Goals as goal

pub returns : goal.returns
returns c =
    let v = to_z-of_z w128 c.args.v c.ranges.v in
    let a = to_z-of_z w128 c.barrier_force.result (record { sfits = c.barrier_force.type_inv }) in
    let b = to_z-of_z w128 c.bent_gradient.result (record { sfits = c.bent_gradient.type_inv }) in
    let d = to_z-of_z w128 (c.barrier_force.result -ℤ c.bent_gradient.result) (fits_signed_from_abs w128 _ (omega (arith, ints, c.barrier_force.ensures.small, c.bent_gradient.ensures.small))) in
    let gradient = rw v at c.bent_gradient.ensures.value in
    rw (a, b, d) (record {
      value = rw (c.barrier_force.ensures.value, gradient) refl;
      small = omega (arith, ints, c.barrier_force.ensures.small, c.bent_gradient.ensures.small);
    })
