use Rattle.std.proofs.Common.{◌≤◌, get_or, arith}
use Rattle.std.proofs.lemmas.List.{get_or_default}
use Rattle.demand_curve.specs.Demand.{most_rate}
use Rattle.batch_certificate.proofs.Sums.{IsTurn, at_turn, one_added, all_added}
use Rattle.batch_certificate.proofs.certificate.add_trades.Goals as goal

pub add_residuals-requires-clause-rate : goal.add_residuals-requires-clause-rate
add_residuals-requires-clause-rate c =
    let turn : IsTurn c.args.orders.now c.args.rates.now c.loop-place.place c.index-orders-place.result (get_or c.args.rates.now c.loop-place.place 0) = record { count = c.requires.one_each; inside = c.loop-place-test.true; order = c.index-orders-place.is; rate = get_or_default c.args.rates.now c.loop-place.place 0 (get_or c.args.rates.now c.loop-place.place 0) (omega (arith, c.loop-place-test.true, c.requires.one_each)) } in
    at_turn (λ t. t.traded ≤ most_rate) _ _ _ _ _ turn c.requires.slow

pub loop-place-preserved : goal.loop-place-preserved
loop-place-preserved c =
    let turn : IsTurn c.args.orders.now c.args.rates.now c.loop-place.place c.index-orders-place.result (get_or c.args.rates.now c.loop-place.place 0) = record { count = c.requires.one_each; inside = c.loop-place-test.true; order = c.index-orders-place.is; rate = get_or_default c.args.rates.now c.loop-place.place 0 (get_or c.args.rates.now c.loop-place.place 0) (omega (arith, c.loop-place-test.true, c.requires.one_each)) } in
    let added = rw c.row.ensures.value at c.add_residuals.ensures in
    one_added _ _ _ _ _ _ _ _ turn c.loop-place.invariant added c.row.ensures.order.row (at_turn (λ t. t.traded ≤ most_rate) _ _ _ _ _ turn c.requires.slow)

pub returns : goal.returns
returns c = all_added _ c.args.orders.now c.args.rates.now c.loop-place.place _ c.requires.one_each (omega (arith, c.loop-place-test.false, c.loop-place.auto.place-end)) c.loop-place.invariant
