use Rattle.std.proofs.Common.{◌≡◌, length, arith}
use Rattle.flow_orders.specs.Trades.{trades}
use Rattle.demand_curve.specs.Demand.{IsRounding}
use Rattle.flow_orders.specs.Orders.{terms_of}
use Rattle.flow_orders.specs.Excess.{price_for}
use Rattle.flow_orders.proofs.TradeFacts.{All-trades}
use Rattle.flow_orders.specs.Orders.{IsOrder}
use Rattle.flow_orders.proofs.Limits.{orders_fit}
use Rattle.batch_certificate.proofs.Sums.{at_turn, one_lost, all_lost, quoted_turn, are_slow, residuals_near, residuals_count, gap_is}
use Rattle.batch_certificate.proofs.certificate.measure.Goals as goal

pub loss_of-lost-requires : goal.loss_of-lost-requires
loss_of-lost-requires c =
    let turn = quoted_turn c.args.orders.now c.args.rates.now c.args.prices.now c.args.quotes.now c.loop-place.place c.index-quotes-place.result c.requires.quoted.quotes_are c.requires.one_each c.loop-place-test.true c.index-quotes-place.is in
    rw turn.2 (at_turn (λ t. IsRounding (terms_of t.order) t.traded (price_for c.args.prices.now t.order)) _ _ _ _ _ turn.1 c.requires.roundings)

pub loop-place-preserved : goal.loop-place-preserved
loop-place-preserved c =
    let turn = quoted_turn c.args.orders.now c.args.rates.now c.args.prices.now c.args.quotes.now c.loop-place.place c.index-quotes-place.result c.requires.quoted.quotes_are c.requires.one_each c.loop-place-test.true c.index-quotes-place.is in
    one_lost _ _ _ _ _ _ _ _ turn.1 c.loop-place.invariant (rw turn.2 at c.loss_of-lost.ensures.lost) c.loss_of-lost.ensures.small c.requires.quoted.priced.few

pub cost-requires-clause-places : goal.cost-requires-clause-places
cost-requires-clause-places c = residuals_count (length c.args.prices.now) (trades c.args.orders.now c.args.rates.now) c.args.residuals.now c.requires.left

pub cost-requires-clause-near : goal.cost-requires-clause-near
cost-requires-clause-near c =
    residuals_near (length c.args.prices.now) c.args.orders.now c.args.rates.now c.args.residuals.now c.requires.quoted.priced.few c.requires.one_each
    (λ k d inside. (All-trades IsOrder c.args.orders.now c.args.rates.now c.requires.quoted.priced.each k d inside).row)
    (are_slow c.args.orders.now c.args.prices.now c.args.rates.now c.requires.quoted.priced.each c.requires.roundings) c.requires.left

pub returns : goal.returns
returns c =
    let all : c.loop-place.place ≡ length c.args.orders.now = omega (arith, c.loop-place-test.false, c.loop-place.auto.place-end) in
    gap_is _ _ _ _ _ c.requires.left (all_lost _ _ _ _ _ c.requires.one_each all c.loop-place.invariant) (omega (arith, c.loop-place.invariant.small, all, c.requires.quoted.priced.few, orders_fit)) c.cost.ensures.value c.cost.ensures.small
