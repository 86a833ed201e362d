use Rattle.std.proofs.Common.{◌-◌, ◌+◌, ◌++◌, ap, ◌∙◌, sym, arith}
use Rattle.sample_market.specs.Orders.{drawn_orders}
use Rattle.sample_market.specs.Files.{encode_commands}
use Rattle.sample_market.proofs.Written.{order_more, orders_written}
use Rattle.sample_market.proofs.file.put_orders.Goals as goal

pub loop-place-preserved : goal.loop-place-preserved
loop-place-preserved c =
    let place = c.loop-place.place in
    let left = c.args.orders - (place + 1) in
    let whole = c.args.file.now.items ++ encode_commands (drawn_orders c.args.orders 0 c.args.number) in
    order_more whole c.loop-place.file.items c.write_command.new.out.items _ (c.args.orders - place) left place c.loop-place.draws c.loop-place.invariant (omega (arith, c.loop-place-test.true)) c.in_ok-write_command.ensures.written c.in_ok-order.ensures.order
    ∙ ap (λ s. c.write_command.new.out.items ++ encode_commands (drawn_orders left (place + 1) s)) (sym c.in_ok-order.ensures.following)

pub returns : goal.returns
returns c =
    orders_written c.args.file.now.items c.loop-place.file.items c.args.orders c.args.number (c.args.orders - c.loop-place.place) c.loop-place.place c.loop-place.draws c.loop-place.invariant (omega (arith, c.loop-place-test.false))
