use Rattle.std.proofs.Common.{◌≡◌, ◌+ℤ◌, ◌-ℤ◌, pos, arith}
use Rattle.std.specs.Int.{int_min, w32}
use Rattle.std.proofs.lemmas.Int.{ints, clamps, to_z-of_z, fits_signed_from_abs}
use Rattle.joint_rounds.proofs.vectors.shift_to_flat.Goals as goal

shift : (c : goal.After-min) → c.min.result ≡ int_min (c.args.top +ℤ pos 16 -ℤ c.args.d.e) (pos 126)
shift c =
    let t = to_z-of_z w32 c.args.top c.ranges.top in
    let e = to_z-of_z w32 c.e.result (record { sfits = c.e.type_inv }) in
    let up = to_z-of_z w32 (c.args.top +ℤ pos 16) (fits_signed_from_abs w32 _ (omega (arith, ints, c.requires.above, c.requires.most, c.e.ensures.value, c.e.ensures.small))) in
    let by = to_z-of_z w32 (c.args.top +ℤ pos 16 -ℤ c.e.result) (fits_signed_from_abs w32 _ (omega (arith, ints, c.requires.above, c.requires.most, c.e.ensures.value, c.e.ensures.small))) in
    rw c.e.ensures.value at (rw (t, e, up, by) at c.min.ensures.value)

pub returns-clause-value : goal.returns-clause-value
returns-clause-value c = rw (to_z-of_z w32 c.min.result (record { sfits = c.min.type_inv })) (shift c)

pub returns-clause-low : goal.returns-clause-low
returns-clause-low c = rw (to_z-of_z w32 c.min.result (record { sfits = c.min.type_inv })) (omega (arith, ints, clamps, shift c, c.requires.above))
