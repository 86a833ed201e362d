use Rattle.std.proofs.Common.{◌≡◌, arith}
use Rattle.std.specs.Int.{w32, w64, w128}
use Rattle.std.proofs.lemmas.Int.{ints, to_z-of_z, fits_signed_from_abs}
use Rattle.joint_prices.specs.Numbers.{within}
use Rattle.joint_prices.proofs.NumberFacts.{placed_fits}
use Rattle.joint_rounds.proofs.VectorFacts.{parts_is}
use Rattle.joint_rounds.proofs.vectors.parts.Goals as goal

pub scale-requires-clause-fits : goal.scale-requires-clause-fits
scale-requires-clause-fits c j is =
    let m = to_z-of_z w128 c.m.result (record { sfits = c.m.type_inv }) in
    let p = to_z-of_z w32 c.shift_to_parts.result (record { sfits = c.shift_to_parts.type_inv }) in
    rw m (placed_fits c.m.result j c.m.ensures.small (omega (arith, ints, rw p at is, c.shift_to_parts.ensures.low)))

pub returns : goal.returns
returns c =
    let m = to_z-of_z w128 c.m.result (record { sfits = c.m.type_inv }) in
    let p = to_z-of_z w32 c.shift_to_parts.result (record { sfits = c.shift_to_parts.type_inv }) in
    let s = to_z-of_z w128 c.scale.result (record { sfits = c.scale.type_inv }) in
    let k = to_z-of_z w128 c.clamp.result (record { sfits = c.clamp.type_inv }) in
    let value : c.clamp.result ≡ within 62 c.scale.result = rw s at c.clamp.ensures.value in
    let r = to_z-of_z w64 c.clamp.result (fits_signed_from_abs w64 _ (omega (arith, ints, c.clamp.ensures.lower_bound, c.clamp.ensures.upper_bound))) in
    rw (k, r) (parts_is c.args.x c.shift_to_parts.result c.scale.result c.clamp.result c.shift_to_parts.ensures.value (rw (m, p, c.m.ensures.value) at c.scale.ensures.value) value)
