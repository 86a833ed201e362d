use Rattle.std.proofs.Common.{◌^◌, ◌<◌, ◌∙◌, ◌++◌, length, sym, arith}
use Rattle.std.proofs.lemmas.List.Elements.{All-more}
use Rattle.wire_fields.specs.Numbers.{unsigned}
use Rattle.flow_orders.specs.Orders.{Order}
use Rattle.market_snapshot.specs.Encodings.{order_encoding, read_order}
use Rattle.market_snapshot.proofs.Walking.{order_length}
use Rattle.market_snapshot.proofs.Written.{one_more, all_written, longer, room_left, orders_written}
use Rattle.std.proofs.Common.{subst}
use Rattle.market_snapshot.proofs.orders.put_orders.Goals as goal

pub put_order-requires : goal.put_order-requires
put_order-requires c =
    let o = c.order-item.result in
    omega (arith, room_left (λ o. order_encoding (read_order o)) c.args.orders.now c.loop-order.order-index o c.loop-order-test.true c.order-item.is, order_length (read_order o), c.loop-order.invariant.len, c.loop-order.invariant.capacity, c.requires.room)

pub loop-order-preserved : goal.loop-order-preserved
loop-order-preserved c =
    let o = c.order-item.result in
    let k = c.loop-order.order-index in
    let orders = c.args.orders.now in
    let more = longer (λ o. order_encoding (read_order o)) orders k o c.loop-order-test.true c.order-item.is in
    record {
      written = one_more (λ o. order_encoding (read_order o)) orders k o o (c.args.out.now.items ++ unsigned 4 (length orders)) c.loop-order.out.items c.put_order.new.out.items c.loop-order-test.true (sym c.order-item.is) c.loop-order.invariant.written c.put_order.ensures.written;
      len = omega (arith, more, order_length (read_order o), c.loop-order.invariant.len, c.put_order.ensures.len);
      capacity = c.put_order.ensures.capacity ∙ c.loop-order.invariant.capacity;
      last = All-more (λ (o : Order). o.last < 2 ^ 32) orders k o c.loop-order-test.true c.loop-order.invariant.last (subst (λ (o : Order). o.last < 2 ^ 32) c.order-item.is c.put_order.ensures.last);
    }

pub returns-clause-written : goal.returns-clause-written
returns-clause-written c =
    let orders = c.args.orders.now in
    orders_written c.args.out.now.items c.loop-order.out.items orders
    (all_written (λ o. order_encoding (read_order o)) orders c.loop-order.order-index (c.args.out.now.items ++ unsigned 4 (length orders)) c.loop-order.out.items c.loop-order-test.false c.loop-order.invariant.written)
