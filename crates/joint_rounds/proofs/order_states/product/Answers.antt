use Rattle.std.proofs.Common.{◌*ℤ◌, refl, arith}
use Rattle.std.specs.Prelude.{unsigned_abs}
use Rattle.std.specs.Int.{w128}
use Rattle.std.proofs.lemmas.Int.{to_z-of_z, fits_signed_mul, unsigned_abs-mul}
use Rattle.joint_rounds.proofs.order_states.product.Goals as goal

pub overflow_mul-result : goal.overflow_mul-result
overflow_mul-result c =
    rw (to_z-of_z w128 c.args.x c.ranges.x, to_z-of_z w128 c.args.y c.ranges.y)
    (fits_signed_mul w128 c.args.x c.args.y (unsigned_abs c.args.x) (unsigned_abs c.args.y) (omega arith) (omega arith) (omega (arith, c.requires)))

pub returns : goal.returns
returns c =
    let fits = fits_signed_mul w128 c.args.x c.args.y (unsigned_abs c.args.x) (unsigned_abs c.args.y) (omega arith) (omega arith) (omega (arith, c.requires)) in
    rw (to_z-of_z w128 c.args.x c.ranges.x, to_z-of_z w128 c.args.y c.ranges.y, to_z-of_z w128 (c.args.x *ℤ c.args.y) fits)
    (record { value = refl; size = unsigned_abs-mul c.args.x c.args.y })
