use Rattle.std.proofs.Common.{◌≡◌, ◌^◌, ◌<◌, ◌≤◌, ◌∙◌, ap, arith}
use Rattle.std.specs.Prelude.{unsigned_abs}
use Rattle.std.specs.Int.{w32, w64, w128}
use Rattle.std.proofs.lemmas.Int.{ints, to_z-of_z, fits_signed_from_abs}
use Rattle.joint_prices.specs.Numbers.{scaled}
use Rattle.joint_rounds.specs.Rounds.{flat_by}
use Rattle.joint_rounds.proofs.VectorFacts.{flat_small}
use Rattle.joint_rounds.proofs.vectors.flat_by.Goals as goal

pub scale-requires-clause-low : goal.scale-requires-clause-low
scale-requires-clause-low c = rw (to_z-of_z w32 c.shift_to_flat.result (record { sfits = c.shift_to_flat.type_inv })) (omega (arith, ints, c.shift_to_flat.ensures.low))

pub scale-requires-clause-fits : goal.scale-requires-clause-fits
scale-requires-clause-fits c j is = absurd (omega (arith, ints, c.shift_to_flat.ensures.low, rw (to_z-of_z w32 c.shift_to_flat.result (record { sfits = c.shift_to_flat.type_inv })) at is))

is_flat : (c : goal.After-scale) → (c.scale.result ≡ flat_by c.args.top c.args.d) × (unsigned_abs c.scale.result ≤ 2 ^ 46)
is_flat c =
    let t = to_z-of_z w32 c.args.top c.ranges.top in
    let m = to_z-of_z w128 c.m.result (record { sfits = c.m.type_inv }) in
    let k = to_z-of_z w32 c.shift_to_flat.result (record { sfits = c.shift_to_flat.type_inv }) in
    let shift = rw t at c.shift_to_flat.ensures.value in
    let value = rw (m, k, c.m.ensures.value) at c.scale.ensures.value in
    let small : unsigned_abs c.args.d.m < 2 ^ 62 = rw (← c.m.ensures.value) c.m.ensures.small in
    (value ∙ ap (scaled c.args.d.m) shift, rw value (flat_small c.args.d c.args.top c.shift_to_flat.result c.requires.above small shift))

pub overflow_cast-result : goal.overflow_cast-result
overflow_cast-result c = rw (to_z-of_z w128 c.scale.result (record { sfits = c.scale.type_inv })) (fits_signed_from_abs w64 _ (omega (arith, (is_flat c).1)))

pub returns : goal.returns
returns c =
    let r = to_z-of_z w128 c.scale.result (record { sfits = c.scale.type_inv }) in
    let z = to_z-of_z w64 c.scale.result (fits_signed_from_abs w64 _ (omega (arith, (is_flat c).1))) in
    rw (r, z) (record { value = (is_flat c).0; flat = (is_flat c).1 })
