use Rattle.std.proofs.Common.{arith}
use Rattle.rate_rounding.proofs.Floors.{one_more_left, all_left}
use Rattle.excess_bounds.proofs.Quoting.{quote_here}
use Rattle.rate_rounding.proofs.choice.add_floors.Goals as goal

pub loop-place-preserved : goal.loop-place-preserved
loop-place-preserved c =
    let quote = quote_here c.args.quoted.now.prices.items c.args.orders.now c.args.quoted.now.quotes.items c.loop-place.place c.requires.quoted.quotes_are c.loop-place-test.true c.index-orders-place.result c.index.result.now c.index-orders-place.is c.index.ensures in
    let added = rw (c.row.ensures.value, c.demand-demand.ensures.floor, quote) at c.add_residuals.ensures in
    one_more_left _ c.args.quoted.now.prices.items c.args.orders.now c.loop-place.place c.index-orders-place.result c.loop-place.residuals c.add_residuals.new.residuals c.loop-place-test.true c.index-orders-place.is c.row.ensures.order c.loop-place.invariant added

pub returns-clause-left : goal.returns-clause-left
returns-clause-left c = (all_left _ _ _ c.loop-place.place _ c.requires.quoted.priced.few c.loop-place-test.false (omega (arith, c.loop-place.auto.place-end)) c.loop-place.invariant).0

pub returns-clause-near : goal.returns-clause-near
returns-clause-near c = (all_left _ _ _ c.loop-place.place _ c.requires.quoted.priced.few c.loop-place-test.false (omega (arith, c.loop-place.auto.place-end)) c.loop-place.invariant).1
