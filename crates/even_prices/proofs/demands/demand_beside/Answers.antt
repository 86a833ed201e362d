use Rattle.std.proofs.Common.{◌≡◌, ◌^◌, ◌≤◌, ℤ, ◌+ℤ◌, w32, unsigned_abs, to_z, of_z, ◌∙◌, arith}
use mir.Syntax.{w128}
use Rattle.std.proofs.lemmas.Int.{to_z-of_z, fits_signed_from_abs}
use Rattle.list_sums.proofs.Products.{unsigned_abs-add}
use Rattle.even_prices.proofs.Columns.{cut, cut_alike}
use Rattle.even_prices.proofs.demands.demand_beside.Goals as goal

-- a price and a step fit 128 bits
sum_fits : (price step : ℤ) → unsigned_abs price ≤ 2 ^ 78 → unsigned_abs step ≤ 4096 → to_z w128 (of_z w128 (to_z w128 (of_z w128 price) +ℤ to_z w128 (of_z w128 step))) ≡ price +ℤ step
sum_fits price step small little =
    let first = to_z-of_z w128 price (fits_signed_from_abs w128 _ (omega (arith, small))) in
    let second = to_z-of_z w128 step (fits_signed_from_abs w128 _ (omega (arith, little))) in
    rw (first, second) (to_z-of_z w128 (price +ℤ step) (fits_signed_from_abs w128 _ (omega (arith, unsigned_abs-add price step, small, little))))

-- the price at which the curve is asked
price_is : (c : goal.After-roundings_in) → to_z w128 (of_z w128 c.clamp.result) ≡ cut (c.args.price +ℤ c.args.step)
price_is c =
    let same = to_z-of_z w128 c.clamp.result (record { sfits = c.clamp.type_inv }) in
    let step = c.from.ensures ∙ to_z-of_z w32 c.args.step c.ranges.step in
    let sum = sum_fits c.args.price c.args.step c.requires.price c.requires.step in
    same ∙ rw (step, sum) at c.clamp.ensures.value

pub returns-clause-floor : goal.returns-clause-floor
returns-clause-floor c = rw (price_is c) at c.roundings_in.ensures.floor ∙ (cut_alike _ c.args.curve.now.within_limits (c.args.price +ℤ c.args.step)).0

pub returns-clause-ceil : goal.returns-clause-ceil
returns-clause-ceil c = rw (price_is c) at c.roundings_in.ensures.ceil ∙ (cut_alike _ c.args.curve.now.within_limits (c.args.price +ℤ c.args.step)).1
