use Rattle.std.proofs.Common.{◌+◌, sym, subst, arith}
use Rattle.std.proofs.lemmas.Grind.{common_steps}
use Rattle.flow_orders.specs.Orders.{IsOrder}
use Rattle.excess_bounds.proofs.Quoting.{quote_here}
use Rattle.rate_rounding.proofs.Choosing.{AreChosen, none_chosen, one_more_chosen, left_over}
use Rattle.rate_rounding.proofs.choice.choose.Goals as goal

pub loop-place-init : goal.loop-place-init
loop-place-init c = record {
  chosen = none_chosen c.args.quoted.now.prices.items c.args.orders.now c.args.rates.now.items c.args.residuals.now c.requires.none c.requires.left c.requires.near;
  pushed = grind (arith, common_steps, c.requires.none);
  room = c.requires.room;
}

pub loop-place-preserved : goal.loop-place-preserved
loop-place-preserved c =
    let prices = c.args.quoted.now.prices.items in
    let quote = quote_here prices c.args.orders.now c.args.quoted.now.quotes.items c.loop-place.place c.requires.quoted.quotes_are c.loop-place-test.true c.index-orders-place.result c.index.result.now c.index-orders-place.is c.index.ensures in
    let order = subst IsOrder (sym c.index-orders-place.is) (c.requires.quoted.priced.each c.loop-place.place c.index-orders-place.result c.loop-place-test.true) in
    let turn = c.choose_one.ensures prices quote c.loop-place.invariant.chosen.count in
    record {
      chosen = subst (λ rates. AreChosen prices c.args.orders.now (c.loop-place.place + 1) rates c.choose_one.new.residuals) (sym c.push_reserved.ensures.items)
          (one_more_chosen prices c.args.orders.now c.loop-place.place c.index-orders-place.result c.loop-place.rates.items c.choose_one.result c.loop-place.residuals c.choose_one.new.residuals c.loop-place-test.true c.index-orders-place.is order turn c.loop-place.invariant.chosen);
      pushed = grind (arith, common_steps);
      room = grind (arith, common_steps);
    }

pub returns-clause-left : goal.returns-clause-left
returns-clause-left c = left_over _ _ c.loop-place.place _ _ c.loop-place-test.false c.loop-place.invariant.chosen
