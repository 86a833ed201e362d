use Rattle.std.proofs.Common.{w64, arith}
use Rattle.std.proofs.lemmas.Int.{ints, to_z-of_z, fits_signed_from_abs}
use Rattle.even_prices.proofs.Tested.{found_low, found_high}
use Rattle.even_prices.proofs.testing.direction.Goals as goal

pub returns-else-is_over_above-clause-uneven : goal.returns-else-is_over_above-clause-uneven
returns-else-is_over_above-clause-uneven c =
    let low = to_z-of_z w64 c.excess_now-excess.result.low (fits_signed_from_abs w64 _ (omega (arith, c.excess_now-excess.ensures.low_bound))) in
    let above = c.if-excess-gt0.true in
    found_low _ _ _ _ _ c.excess_now-excess.ensures.low (omega (arith, ints, rw low at above)) c.is_over_above.ensures c.if-is_over_above.false

pub returns-else-is_short_below-clause-uneven : goal.returns-else-is_short_below-clause-uneven
returns-else-is_short_below-clause-uneven c =
    let high = to_z-of_z w64 c.excess_now-excess.result.high (fits_signed_from_abs w64 _ (omega (arith, c.excess_now-excess.ensures.high_bound))) in
    let below = c.if-excess-lt0.true in
    found_high _ _ _ _ _ c.excess_now-excess.ensures.high (omega (arith, ints, rw high at below)) c.is_short_below.ensures c.if-is_short_below.false
