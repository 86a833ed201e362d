use Rattle.std.proofs.Common.{◌≡◌, get_or, take, subst, refl, arith}
use Rattle.std.specs.Prelude.{All}
use Rattle.std.proofs.lemmas.List.{get_or_default, take_all}
use Rattle.demand_curve.specs.Demand.{IsRounding}
use Rattle.flow_orders.specs.Orders.{terms_of}
use Rattle.flow_orders.specs.Excess.{price_for}
use Rattle.flow_orders.specs.Trades.{trades}
use Rattle.batch_certificate.proofs.Sums.{IsTurn, one_more_holds, length-trades}
use Rattle.curve_checks.proofs.rates.are_roundings.Goals as goal

pub loop-place-preserved : goal.loop-place-preserved
loop-place-preserved c =
    let turn : IsTurn c.args.orders.now c.args.rates.now c.loop-place.place c.index-orders-place.result (get_or c.args.rates.now c.loop-place.place 0) = record {
      count = c.requires.one_each;
      inside = c.loop-place-test.true;
      order = c.index-orders-place.is;
      rate = get_or_default c.args.rates.now c.loop-place.place 0 (get_or c.args.rates.now c.loop-place.place 0) (omega (arith, c.loop-place-test.true, c.requires.one_each));
    } in
    one_more_holds (λ t. IsRounding (terms_of t.order) t.traded (price_for c.args.prices.now t.order)) c.args.orders.now c.args.rates.now c.loop-place.place _ _ turn c.loop-place.invariant (c.if-not-is_rounding.ensures refl)

pub returns : goal.returns
returns c passed =
    let all : take c.loop-place.place (trades c.args.orders.now c.args.rates.now) ≡ trades c.args.orders.now c.args.rates.now =
    take_all _ _ (omega (arith, c.loop-place-test.false, length-trades c.args.orders.now c.args.rates.now c.requires.one_each)) in
    subst (λ ts. All (λ t. IsRounding (terms_of t.order) t.traded (price_for c.args.prices.now t.order)) ts) all c.loop-place.invariant
