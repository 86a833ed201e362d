use Rattle.std.proofs.Common.{◌≤◌, get_or, arith}
use Rattle.std.proofs.lemmas.List.{get_or_default}
use Rattle.flow_orders.specs.Orders.{terms_of}
use Rattle.flow_orders.proofs.Limits.{orders_fit}
use Rattle.batch_certificate.proofs.Sums.{IsTurn, at_turn}
use Rattle.account_statement.proofs.Costs.{slow_enough, one_more_brought, all_brought}
use Rattle.account_statement.proofs.batch.bring.Goals as goal

pub add_residuals-requires-clause-rate : goal.add_residuals-requires-clause-rate
add_residuals-requires-clause-rate c =
    let turn : IsTurn c.args.orders.now c.args.rates.now c.loop-place.place c.index-orders-place.result (get_or c.args.rates.now c.loop-place.place 0) = record { count = c.requires.one_each; inside = c.loop-place-test.true; order = c.index-orders-place.is; rate = get_or_default c.args.rates.now c.loop-place.place 0 (get_or c.args.rates.now c.loop-place.place 0) (omega (arith, c.loop-place-test.true, c.requires.one_each)) } in
    slow_enough c.index-orders-place.result _ c.row.ensures.order (at_turn (λ t. t.traded ≤ (terms_of t.order).room) _ _ _ _ _ turn c.requires.within)

pub add_residuals-requires-clause-near : goal.add_residuals-requires-clause-near
add_residuals-requires-clause-near c = λ asset. omega (arith, c.loop-place.invariant.near asset, c.loop-place-test.true, c.requires.few, orders_fit)

pub loop-place-preserved : goal.loop-place-preserved
loop-place-preserved c =
    let turn : IsTurn c.args.orders.now c.args.rates.now c.loop-place.place c.index-orders-place.result (get_or c.args.rates.now c.loop-place.place 0) = record { count = c.requires.one_each; inside = c.loop-place-test.true; order = c.index-orders-place.is; rate = get_or_default c.args.rates.now c.loop-place.place 0 (get_or c.args.rates.now c.loop-place.place 0) (omega (arith, c.loop-place-test.true, c.requires.one_each)) } in
    let order = c.row.ensures.order in
    one_more_brought _ _ _ _ _ _ _ _ turn c.loop-place.invariant (rw c.row.ensures.value at c.add_residuals.ensures) order.row
    (slow_enough c.index-orders-place.result _ order (at_turn (λ t. t.traded ≤ (terms_of t.order).room) _ _ _ _ _ turn c.requires.within))

pub returns : goal.returns
returns c = all_brought _ _ _ c.loop-place.place _ c.requires.one_each c.loop-place-test.false c.loop-place.invariant
