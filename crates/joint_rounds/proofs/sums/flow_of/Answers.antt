use Rattle.std.proofs.Common.{◌^◌, ◌≤◌, pos, refl, arith}
use Rattle.std.specs.Prelude.{unsigned_abs}
use Rattle.std.specs.Int.{w128}
use Rattle.std.proofs.lemmas.Int.{to_z-of_z}
use Rattle.std.proofs.Math.Nat.{mul-le-mul}
use Rattle.weight_rows.specs.Rows.{portfolio_price}
use Rattle.joint_rounds.proofs.RowAdding.{flat_price, flow_small}
use Rattle.joint_rounds.proofs.sums.flow_of.Goals as goal

pub product-requires : goal.product-requires
product-requires c =
    let p = to_z-of_z w128 c.price-price.result (record { sfits = c.price-price.type_inv }) in
    let s = to_z-of_z w128 c.from.result (record { sfits = c.from.type_inv }) in
    let is = rw c.row.ensures.value at c.price-price.ensures.value in
    let price : unsigned_abs c.price-price.result ≤ 2 ^ 62 = rw is (flat_price c.args.order.now.row c.args.flat.now c.row.ensures.order.row c.requires.flat) in
    let slope : unsigned_abs c.from.result ≤ 2 ^ 62 = rw c.from.ensures (omega (arith, c.slope.ensures.most)) in
    rw (p, s) (omega (arith, mul-le-mul price slope))

pub scale-requires-clause-small : goal.scale-requires-clause-small
scale-requires-clause-small c =
    let p = to_z-of_z w128 c.price-price.result (record { sfits = c.price-price.type_inv }) in
    let s = to_z-of_z w128 c.from.result (record { sfits = c.from.type_inv }) in
    let q = to_z-of_z w128 c.product.result (record { sfits = c.product.type_inv }) in
    let is = rw c.row.ensures.value at c.price-price.ensures.value in
    let price : unsigned_abs c.price-price.result ≤ 2 ^ 62 = rw is (flat_price c.args.order.now.row c.args.flat.now c.row.ensures.order.row c.requires.flat) in
    let slope : unsigned_abs c.from.result ≤ 2 ^ 62 = rw c.from.ensures (omega (arith, c.slope.ensures.most)) in
    let size = rw (p, s) at c.product.ensures.size in
    rw q (omega (arith, size, mul-le-mul price slope))

pub returns : goal.returns
returns c =
    let p = to_z-of_z w128 c.price-price.result (record { sfits = c.price-price.type_inv }) in
    let s = to_z-of_z w128 c.from.result (record { sfits = c.from.type_inv }) in
    let q = to_z-of_z w128 c.product.result (record { sfits = c.product.type_inv }) in
    let r = to_z-of_z w128 c.scale.result (record { sfits = c.scale.type_inv }) in
    let is = rw c.row.ensures.value at c.price-price.ensures.value in
    let price : unsigned_abs (portfolio_price c.args.order.now.row c.args.flat.now) ≤ 2 ^ 62 = flat_price c.args.order.now.row c.args.flat.now c.row.ensures.order.row c.requires.flat in
    let slope : unsigned_abs (pos c.args.state.slope) ≤ 2 ^ 62 = omega (arith, c.slope.ensures) in
    let product = rw (p, s, is, c.from.ensures, c.slope.ensures.value) at c.product.ensures.value in
    let value = rw (q, product) at c.scale.ensures.value in
    rw (r, value) (record { value = refl; small = flow_small (portfolio_price c.args.order.now.row c.args.flat.now) (pos c.args.state.slope) price slope })
