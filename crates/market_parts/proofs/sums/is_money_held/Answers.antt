use Rattle.std.proofs.Common.{◌≡◌, ◌∙◌, refl, sym, arith}
use Rattle.std.proofs.lemmas.Int.{to_z-of_z, fits_signed_from_abs}
use Rattle.std.specs.Int.{w128}
use Rattle.market_parts.proofs.Summing.{never_held}
use Rattle.std.proofs.Common.{true≢false}
use Rattle.market_parts.proofs.sums.is_money_held.Goals as goal

pub returns-in-Some : goal.returns-in-Some
returns-in-Some g c =
    let sum : c.in-Some.sum ≡ _ = c.in-Some.ensures.sum in
    let one = to_z-of_z w128 c.in-Some.sum (fits_signed_from_abs w128 c.in-Some.sum (omega (arith, c.in-Some.ensures.fits))) ∙ sum in
    let other = to_z-of_z w128 c.args.exchange c.ranges.exchange in
    let whole = to_z-of_z w128 c.total_money.result (record { sfits = c.total_money.type_inv }) ∙ c.total_money.ensures in
    rw (one, other, whole) at c.is_sum.ensures

pub returns-in-None : goal.returns-in-None
returns-in-None g c = (λ f. absurd (true≢false (sym f)), λ held. absurd (never_held (g.P.AccountParts.balances c.args.parts.now) c.requires.lawful c.args.exchange c.requires.exchange (c.in-None.ensures.none refl) held))
