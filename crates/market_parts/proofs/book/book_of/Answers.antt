use Rattle.std.proofs.Common.{◌∙◌, ◌<◌, length, ap, arith, rules}
use Rattle.std.proofs.Common.{[], ◌∷◌, ◌++◌}
use Rattle.flow_orders.specs.Orders.{Order}
use Rattle.market_parts.specs.Tests.{order_at, IsConsistentOrder, AreConsistentOrders}
use Rattle.market_parts.proofs.Listing.{none_listed, listed_length, all_below, one_listed, not_ascending, all_listed}
use Rattle.market_parts.proofs.book.book_of.Goals as goal

pub loop-place-init : goal.loop-place-init
loop-place-init g c = rw c.new-book.ensures (none_listed c.args.version (g.P.AccountParts.balances c.args.parts.now) (g.P.MarketParts.parts c.args.parts.now))

pub returns-in_err-order-clause-unsound : goal.returns-in_err-order-clause-unsound
returns-in_err-order-clause-unsound g c =
    let inside : c.loop-place.place < length (g.P.MarketParts.parts c.args.parts.now).orders = omega (arith, c.loop-place-test.true, c.order_count-place-end.ensures) in
    let b = g.P.AccountParts.balances c.args.parts.now in
    let p = g.P.MarketParts.parts c.args.parts.now in
    let each : AreConsistentOrders c.args.version b p → IsConsistentOrder c.args.version b p (order_at p c.loop-place.place) = λ all. all.each c.loop-place.place inside in
    search rules

pub returns-then-number-before-clause-unsound : goal.returns-then-number-before-clause-unsound
returns-then-number-before-clause-unsound g c _ =
    let p = g.P.MarketParts.parts c.args.parts.now in
    let inside : c.loop-place.place < length p.orders = omega (arith, c.loop-place-test.true, c.order_count-place-end.ensures) in
    let number = c.number-number.ensures.value ∙ ap (λ (o : Order). o.number) c.in_ok-order.ensures.order in
    not_ascending c.args.version (g.P.AccountParts.balances c.args.parts.now) p c.loop-place.place c.loop-place.before _ inside c.loop-place.invariant c.in_ok-order.ensures.consistent (omega (arith, number, c.if-number-before.true))

pub add_order-requires-clause-few : goal.add_order-requires-clause-few
add_order-requires-clause-few g c =
    let p = g.P.MarketParts.parts c.args.parts.now in
    let inside : c.loop-place.place < length p.orders = omega (arith, c.loop-place-test.true, c.order_count-place-end.ensures) in
    omega (arith, listed_length c.args.version (g.P.AccountParts.balances c.args.parts.now) p c.loop-place.place c.loop-place.before _ inside c.loop-place.invariant, inside, c.requires)

pub add_order-requires-clause-above : goal.add_order-requires-clause-above
add_order-requires-clause-above g c =
    let p = g.P.MarketParts.parts c.args.parts.now in
    let inside : c.loop-place.place < length p.orders = omega (arith, c.loop-place-test.true, c.order_count-place-end.ensures) in
    let number = c.number-number.ensures.value ∙ ap (λ (o : Order). o.number) c.in_ok-order.ensures.order in
    rw c.in_ok-order.ensures.order (all_below c.args.version (g.P.AccountParts.balances c.args.parts.now) p c.loop-place.place c.loop-place.before _ inside c.loop-place.invariant (omega (arith, number, c.if-number-before.false)))

pub loop-place-preserved : goal.loop-place-preserved
loop-place-preserved g c =
    let p = g.P.MarketParts.parts c.args.parts.now in
    let inside : c.loop-place.place < length p.orders = omega (arith, c.loop-place-test.true, c.order_count-place-end.ensures) in
    let number = c.number-number.ensures.value ∙ ap (λ (o : Order). o.number) c.in_ok-order.ensures.order in
    let added = c.in_ok-add_order.ensures.added ∙ ap (λ o. c.loop-place.book.orders ++ o ∷ []) c.in_ok-order.ensures.order in
    rw number (one_listed c.args.version (g.P.AccountParts.balances c.args.parts.now) p c.loop-place.place c.loop-place.before _ inside c.loop-place.invariant _ c.in_ok-order.ensures.consistent (omega (arith, number, c.if-number-before.false)) added)

pub returns-clause-orders : goal.returns-clause-orders
returns-clause-orders g c = (all_listed c.args.version (g.P.AccountParts.balances c.args.parts.now) (g.P.MarketParts.parts c.args.parts.now) c.loop-place.place c.loop-place.before _ (omega (arith, c.loop-place-test.false, c.loop-place.auto.place-end, c.order_count-place-end.ensures)) c.loop-place.invariant).0

pub returns-clause-consistent : goal.returns-clause-consistent
returns-clause-consistent g c = (all_listed c.args.version (g.P.AccountParts.balances c.args.parts.now) (g.P.MarketParts.parts c.args.parts.now) c.loop-place.place c.loop-place.before _ (omega (arith, c.loop-place-test.false, c.loop-place.auto.place-end, c.order_count-place-end.ensures)) c.loop-place.invariant).1
