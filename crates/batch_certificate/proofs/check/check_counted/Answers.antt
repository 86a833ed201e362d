use Rattle.std.proofs.Common.{length, refl, subst}
use Rattle.std.specs.Prelude.{unsigned_abs}
use Rattle.batch_certificate.specs.Verdicts.{HoldsBelow, IsFirstWrong}
use Rattle.batch_certificate.specs.Weighing.{HasCounts, IsPriceKept, weighed}
use Rattle.batch_certificate.proofs.Verdicts.{first_price, all_prices, prices_in_range}
use Rattle.batch_certificate.proofs.check.check_counted.Goals as goal

pub returns-in-Some-clause-verdict : goal.returns-in-Some-clause-verdict
returns-in-Some-clause-verdict g c =
    let clearing = g.P.ClearedParts.clearing c.args.parts.now in
    let sums = subst (λ n. HasCounts n (weighed unsigned_abs c.args.orders.now) c.add_weights.new.spreads) c.requires.no_spreads.count c.add_weights.ensures.spreads in
    let first = subst (λ n. IsFirstWrong (IsPriceKept c.add_weights.new.spreads c.args.start.now clearing) n c.in-Some.asset) c.requires.counted.prices c.in-Some.ensures.wrong in
    (c.requires.counted, first_price _ _ clearing _ (length c.args.start.now) c.add_weights.ensures.orders sums _ first)

pub check_priced-requires-clause-range : goal.check_priced-requires-clause-range
check_priced-requires-clause-range g c =
    prices_in_range c.args.orders.now c.args.start.now c.wrong_price.new.prices (g.P.ClearedParts.clearing c.args.parts.now) c.add_weights.new.spreads _ c.in_default.ensures.prices refl c.in_default.ensures.right

pub returns-clause-verdict : goal.returns-clause-verdict
returns-clause-verdict g c =
    let clearing = g.P.ClearedParts.clearing c.args.parts.now in
    let sums = subst (λ n. HasCounts n (weighed unsigned_abs c.args.orders.now) c.add_weights.new.spreads) c.requires.no_spreads.count c.add_weights.ensures.spreads in
    let kept = subst (λ n. HoldsBelow (IsPriceKept c.add_weights.new.spreads c.args.start.now clearing) n) c.requires.counted.prices c.in_default.ensures.right in
    c.check_priced.ensures c.args.start.now (record { counted = c.requires.counted; prices = all_prices _ _ clearing _ (length c.args.start.now) c.add_weights.ensures.orders sums kept })
