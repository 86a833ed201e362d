use Rattle.std.proofs.Common.{w64}
use Rattle.std.proofs.lemmas.Int.{to_z-of_z}
use Rattle.flow_orders.proofs.BookSums.{own_price}
use Rattle.flow_orders.proofs.MoveLaws.{parts_narrow_excess}
use Rattle.even_prices.specs.Even.{even_parts}
use Rattle.even_prices.proofs.testing.excess_now.Goals as goal

pub returns-clause-low : goal.returns-clause-low
returns-clause-low c =
    let same = to_z-of_z w64 c.price_in.result (record { sfits = c.price_in.type_inv }) in
    rw (same, c.price_in.ensures.value, own_price) at c.excess_at.ensures.low

pub returns-clause-high : goal.returns-clause-high
returns-clause-high c =
    let same = to_z-of_z w64 c.price_in.result (record { sfits = c.price_in.type_inv }) in
    rw (same, c.price_in.ensures.value, own_price) at c.excess_at.ensures.high

pub returns-clause-order : goal.returns-clause-order
returns-clause-order c =
    rw (returns-clause-low c, returns-clause-high c) (parts_narrow_excess even_parts c.args.work.now.orders c.args.work.now.prices c.args.asset c.price_in.ensures.priced.each).between
