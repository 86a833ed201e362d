use Rattle.std.proofs.Common.{◌≡◌, ◌^◌, ◌≤◌, ℕ, ℤ, ◌+ℤ◌, w32, w64, List, set, unsigned_abs, to_z, of_z, refl, arith}
use mir.Syntax.{w128}
use Rattle.std.proofs.lemmas.Int.{to_z-of_z, fits_signed_from_abs}
use Rattle.list_sums.proofs.Products.{unsigned_abs-add}
use Rattle.flow_orders.specs.Residuals.{residual_in}
use Rattle.even_prices.proofs.book.add_leg.Goals as goal

-- a sum and a part fit 64 bits
sum_fits : (sum part : ℤ) → unsigned_abs sum ≤ 2 ^ 59 → unsigned_abs part ≤ 2 ^ 44 → to_z w64 (of_z w64 (to_z w64 (of_z w64 sum) +ℤ to_z w64 (of_z w64 part))) ≡ sum +ℤ part
sum_fits sum part small little =
    let first = to_z-of_z w64 sum (fits_signed_from_abs w64 _ (omega (arith, small))) in
    let second = to_z-of_z w64 part (fits_signed_from_abs w64 _ (omega (arith, little))) in
    rw (first, second) (to_z-of_z w64 (sum +ℤ part) (fits_signed_from_abs w64 _ (omega (arith, unsigned_abs-add sum part, small, little))))

-- the sum of an asset is written
written : (sums : List ℤ) (asset at : ℕ) (part asked : ℤ) → at ≡ asset → unsigned_abs (residual_in sums asset) ≤ 2 ^ 59 → unsigned_abs part ≤ 2 ^ 44 → part ≡ asked
    → set sums at (to_z w64 (of_z w64 (to_z w64 (of_z w64 (residual_in sums at)) +ℤ to_z w64 (of_z w64 part)))) ≡ set sums asset (residual_in sums asset +ℤ asked)
written sums asset at part asked here near little is = rw (here, sum_fits (residual_in sums asset) part near little, is) refl

pub returns : goal.returns
returns c =
    let price = to_z-of_z w128 c.args.price c.ranges.price in
    let weight = to_z-of_z w32 c.args.entry.now.weight (fits_signed_from_abs w32 _ (omega (arith, c.requires.weight))) in
    written _ _ _ _ _ c.from.ensures c.requires.near c.part.ensures.bound (rw (price, weight) at c.part.ensures.value)
