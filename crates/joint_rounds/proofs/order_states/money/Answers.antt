use Rattle.std.proofs.Common.{◌^◌, ◌≤◌, ◌*ℤ◌, pos, ap, refl, arith}
use Rattle.std.specs.Prelude.{unsigned_abs}
use Rattle.std.specs.Int.{w32, w128}
use Rattle.std.proofs.lemmas.Int.{to_z-of_z, to_z_pos, fits_signed_mul}
use Rattle.list_sums.proofs.Products.{unsigned_abs-mul_le}
use Rattle.joint_rounds.proofs.StateFacts.{money_is, scaled_small}
use Rattle.joint_rounds.proofs.order_states.money.Goals as goal

pub returns : goal.returns
returns c =
    let r = to_z-of_z w128 c.scale.result (record { sfits = c.scale.type_inv }) in
    let x = to_z-of_z w128 c.args.x c.ranges.x in
    let p = to_z-of_z w128 (c.args.x *ℤ pos (2 ^ 8)) (fits_signed_mul w128 c.args.x (pos (2 ^ 8)) (2 ^ 79) (2 ^ 8) c.requires (omega arith) (omega arith)) in
    let k = to_z_pos w32 c.coarseness.result (omega (arith, c.coarseness.ensures.most)) in
    let is = rw (x, p, k) at c.scale.ensures.value in
    let small : unsigned_abs c.scale.result ≤ unsigned_abs (c.args.x *ℤ pos (2 ^ 8)) = rw is (scaled_small (c.args.x *ℤ pos (2 ^ 8)) (pos c.coarseness.result) c.coarseness.result refl) in
    rw r (record {
      value = money_is c.args.s c.args.x (c.args.x *ℤ pos (2 ^ 8)) (pos c.coarseness.result) c.scale.result refl (ap pos c.coarseness.ensures.value) is;
      small = omega (arith, small, unsigned_abs-mul_le c.args.x (pos (2 ^ 8)) (unsigned_abs c.args.x) (2 ^ 8) (omega arith) (omega arith));
    })
