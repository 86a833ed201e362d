use Rattle.std.proofs.Common.{to_z, of_z, ◌≡◌, ◌^◌, ◌*ℤ◌, arith}
use Rattle.std.specs.Prelude.{unsigned_abs}
use Rattle.std.specs.Int.{w128}
use Rattle.std.proofs.lemmas.Int.{ints, to_z-of_z, fits_signed_mul}
use Rattle.list_sums.proofs.Products.{unsigned_abs-mul_le}
use Rattle.joint_rounds.proofs.sums.weighed.Goals as goal

weight_is : (c : goal.After-from) → c.from.result ≡ c.args.weight
weight_is c = omega (arith, ints, c.from.ensures, c.requires.weight)

product : (c : goal.After-from) → to_z w128 (of_z w128 (to_z w128 (of_z w128 c.from.result) *ℤ to_z w128 (of_z w128 c.args.factor))) ≡ c.args.weight *ℤ c.args.factor
product c =
    rw (to_z-of_z w128 c.from.result (record { sfits = c.from.type_inv }), to_z-of_z w128 c.args.factor c.ranges.factor, weight_is c)
    (to_z-of_z w128 (c.args.weight *ℤ c.args.factor) (fits_signed_mul w128 c.args.weight c.args.factor 4096 (2 ^ 96) c.requires.weight c.requires.factor (omega arith)))

pub returns-clause-value : goal.returns-clause-value
returns-clause-value c = product c

pub returns-clause-small : goal.returns-clause-small
returns-clause-small c = rw (product c) (omega (arith, unsigned_abs-mul_le c.args.weight c.args.factor 4096 (unsigned_abs c.args.factor) c.requires.weight (omega arith)))
