use Rattle.std.proofs.Common.{◌≡◌, ◌+ℤ◌, arith}
use Rattle.std.specs.Int.{w64, w128}
use Rattle.std.proofs.lemmas.Int.{ints, to_z-of_z, fits_signed_from_abs}
use Rattle.joint_prices.specs.Numbers.{within}
use Rattle.joint_rounds.specs.OrderStates.{grains}
use Rattle.joint_rounds.proofs.moving.moved.Goals as goal

pub returns-clause-value : goal.returns-clause-value
returns-clause-value c =
    let f = to_z-of_z w128 c.from.result (record { sfits = c.from.type_inv }) in
    let g = to_z-of_z w128 c.grains.result (record { sfits = c.grains.type_inv }) in
    let k = to_z-of_z w128 c.clamp.result (record { sfits = c.clamp.type_inv }) in
    let p = to_z-of_z w64 c.args.price c.ranges.price in
    let b = to_z-of_z w64 c.args.by c.ranges.by in
    let from = rw p at c.from.ensures in
    let sum = to_z-of_z w128 (c.from.result +ℤ c.grains.result) (fits_signed_from_abs w128 _ (omega (arith, ints, from, c.requires.price, c.grains.ensures.small))) in
    let amount = rw b at c.grains.ensures.value in
    let value : c.clamp.result ≡ within 61 (c.args.price +ℤ grains c.args.s c.args.by) = rw (f, g, sum, from, amount) at c.clamp.ensures.value in
    let r = to_z-of_z w64 c.clamp.result (fits_signed_from_abs w64 _ (omega (arith, ints, c.clamp.ensures.lower_bound, c.clamp.ensures.upper_bound))) in
    rw (k, r) value
