use Rattle.std.proofs.Common.{◌≡◌, ◌<◌, ◌≤◌, length, sym, subst, arith}
use Rattle.flow_orders.specs.Orders.{terms_of}
use Rattle.flow_orders.specs.Trades.{Trade}
use Rattle.order_book.proofs.Traded.{length-trades, get_or-trades}
use Rattle.account_checks.proofs.books.are_within.Goals as goal

pub returns-clause-within : goal.returns-clause-within
returns-clause-within c true k d inside =
    let count : length c.args.rates.now ≡ length c.args.orders.now = omega arith in
    let here : k < length c.args.orders.now = omega (arith, inside, length-trades c.args.orders.now c.args.rates.now count) in
    let at = get_or-trades c.args.orders.now c.args.rates.now k d d.order 0 count here in
    subst (λ (t : Trade). t.traded ≤ (terms_of t.order).room) (sym at) (c.loop-place.invariant k d.order (omega arith))
