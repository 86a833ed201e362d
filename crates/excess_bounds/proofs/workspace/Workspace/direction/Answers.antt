use Rattle.std.proofs.Common.{◌≡◌, ℤ, pos, ◌≤ℤ◌, ◌-ℤ◌, ◌^◌, w64, to_z, of_z, ◌∙◌, arith}
use Rattle.std.specs.Prelude.{neg_ℤ}
use Rattle.std.proofs.lemmas.Int.{ints, to_z-of_z, fits_signed_from_abs}
use Rattle.excess_bounds.proofs.Settled.{rises, falls, settles, above_unsettled, below_unsettled}
use Rattle.excess_bounds.proofs.workspace.Workspace.direction.Goals as goal

-- minus a slope bound, as the code computes it
minus : (steep : ℤ) → pos 0 ≤ℤ steep → steep ≤ℤ pos (2 ^ 30) → to_z w64 (of_z w64 (pos 0 -ℤ steep)) ≡ neg_ℤ steep
minus steep some most =
    let same : pos 0 -ℤ steep ≡ neg_ℤ steep = omega (arith, ints) in
    to_z-of_z w64 (pos 0 -ℤ steep) (fits_signed_from_abs w64 _ (omega (arith, ints, some, most))) ∙ same

pub returns-then-steepness-excess-clause-unsettled : goal.returns-then-steepness-excess-clause-unsettled
returns-then-steepness-excess-clause-unsettled c =
    let steep = to_z-of_z w64 c.steepness-steepness.result (record { sfits = c.steepness-steepness.type_inv }) in
    let low = to_z-of_z w64 c.excess-excess.result.low (fits_signed_from_abs w64 _ (omega (arith, c.excess-excess.ensures.low_bound))) in
    above_unsettled _ _ _ (rises _ _ _ _ _ _ c.excess-excess.ensures.low c.excess-excess.ensures.high c.steepness-steepness.ensures.value (rw (steep, low) at c.if-steepness-excess.true))

pub returns-then-excess-steepness-clause-unsettled : goal.returns-then-excess-steepness-clause-unsettled
returns-then-excess-steepness-clause-unsettled c =
    let steep = to_z-of_z w64 c.steepness-steepness.result (record { sfits = c.steepness-steepness.type_inv }) in
    let high = to_z-of_z w64 c.excess-excess.result.high (fits_signed_from_abs w64 _ (omega (arith, c.excess-excess.ensures.high_bound))) in
    let less = minus c.steepness-steepness.result (omega (arith, ints, c.steepness-steepness.ensures.value)) c.steepness-steepness.ensures.most in
    below_unsettled _ _ _ (falls _ _ _ _ _ _ c.excess-excess.ensures.low c.excess-excess.ensures.high c.steepness-steepness.ensures.value (rw (steep, high, less) at c.if-excess-steepness.true))

pub returns-else-excess-steepness-clause-settled : goal.returns-else-excess-steepness-clause-settled
returns-else-excess-steepness-clause-settled c =
    let steep = to_z-of_z w64 c.steepness-steepness.result (record { sfits = c.steepness-steepness.type_inv }) in
    let low = to_z-of_z w64 c.excess-excess.result.low (fits_signed_from_abs w64 _ (omega (arith, c.excess-excess.ensures.low_bound))) in
    let high = to_z-of_z w64 c.excess-excess.result.high (fits_signed_from_abs w64 _ (omega (arith, c.excess-excess.ensures.high_bound))) in
    let less = minus c.steepness-steepness.result (omega (arith, ints, c.steepness-steepness.ensures.value)) c.steepness-steepness.ensures.most in
    settles _ _ _ _ _ _ c.excess-excess.ensures.low c.excess-excess.ensures.high c.steepness-steepness.ensures.value (rw (steep, low) at c.if-steepness-excess.false) (rw (steep, high, less) at c.if-excess-steepness.false)
