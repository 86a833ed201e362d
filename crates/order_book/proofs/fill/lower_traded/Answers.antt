use Rattle.std.proofs.Common.{◌≤◌, length, rules, ◌∙◌, arith}
use Rattle.std.proofs.lemmas.Slice.Zip.{zip_turn, zip_end}
use Rattle.std.proofs.lemmas.List.{length_push}
use Rattle.flow_orders.specs.Orders.{terms_of}
use Rattle.flow_orders.specs.Trades.{trades}
use Rattle.order_book.proofs.Traded.{length-trades}
use Rattle.order_book.proofs.TradeLoops.{IsTurn, IsLoweredTo-more, IsLoweredTo-all, at_turn, is_there}
use Rattle.order_book.proofs.fill.lower_traded.Goals as goal

turn : (c : goal.After-from) → IsTurn c.args.orders.now c.args.rates.now (length c.loop-order.yielded) c.in-Some.order.now c.from.result
turn c =
    let at = zip_turn c.args.orders.now c.args.rates.now c.loop-order.yielded c.into_iter-order-iterator.result c.loop-order.order-iterator c.next.new.self c.next.result (search rules) (search rules) c.loop-order.yielded_by _ c.in-Some.is c.next.ensures.steps in
    record { count = c.requires.count; inside = at.0; order = at.2 c.in-Some.order.now; rate = c.from.ensures ∙ at.3 c.from.result }

pub lower_for-requires-clause-within : goal.lower_for-requires-clause-within
lower_for-requires-clause-within c =
    let within : c.from.result ≤ (terms_of c.in-Some.order.now).room = at_turn c.args.orders.now c.args.rates.now (length c.loop-order.yielded) c.in-Some.order.now c.from.result (turn c) (λ t. t.traded ≤ (terms_of t.order).room) c.requires.within in
    omega (arith, within)

pub lower_for-requires-clause-there : goal.lower_for-requires-clause-there
lower_for-requires-clause-there c need =
    is_there c.args.orders.now c.args.rates.now (length c.loop-order.yielded) c.in-Some.order.now c.from.result (turn c) c.args.sums.now.table c.loop-order.sums.table need (c.requires.there need) c.loop-order.invariant

pub loop-order-preserved : goal.loop-order-preserved
loop-order-preserved c =
    let at = zip_turn c.args.orders.now c.args.rates.now c.loop-order.yielded c.into_iter-order-iterator.result c.loop-order.order-iterator c.next.new.self c.next.result (search rules) (search rules) c.loop-order.yielded_by _ c.in-Some.is c.next.ensures.steps in
    let turn : IsTurn c.args.orders.now c.args.rates.now (length c.loop-order.yielded) c.in-Some.order.now c.from.result = record { count = c.requires.count; inside = at.0; order = at.2 c.in-Some.order.now; rate = c.from.ensures ∙ at.3 c.from.result } in
    IsLoweredTo-more c.args.orders.now c.args.rates.now (length c.loop-order.yielded) c.in-Some.order.now c.from.result turn c.args.sums.now.table c.loop-order.sums.table c.lower_for.new.self.table _
    (length_push c.loop-order.yielded (c.in-Some.order, c.in-Some.rate)) c.loop-order.invariant c.lower_for.ensures.lowered c.lower_for.ensures.room

pub returns-clause-lowered : goal.returns-clause-lowered
returns-clause-lowered c =
    let count = zip_end c.args.orders.now c.args.rates.now c.loop-order.yielded c.into_iter-order-iterator.result c.loop-order.order-iterator c.next.new.self c.next.result (search rules) (search rules) c.loop-order.yielded_by c.in-None.is c.next.ensures.steps in
    let all : length (trades c.args.orders.now c.args.rates.now) ≤ length c.loop-order.yielded = omega (arith, count, c.requires.count, length-trades c.args.orders.now c.args.rates.now c.requires.count) in
    IsLoweredTo-all (trades c.args.orders.now c.args.rates.now) c.args.sums.now.table c.loop-order.sums.table (length c.loop-order.yielded) all c.loop-order.invariant
