use Rattle.std.proofs.Common.{◌≡◌, ◌∙◌, ◌++◌, map, ap, arith}
use Rattle.market_rules.specs.Market.{Market}
use Rattle.market_snapshot.specs.Encodings.{orders_encoding, read_order}
use Rattle.market_snapshot.specs.Fields.{fields_encoding}
use Rattle.market_snapshot.proofs.Written.{market_written}
use Rattle.market_snapshot.proofs.writing.write_market.Goals as goal

pub returns-clause-written : goal.returns-clause-written
returns-clause-written c =
    let m = c.args.market.now in
    let old = c.args.out.now.items in
    let fields : c.put_fields.new.out.items ≡ old ++ fields_encoding m =
    c.put_fields.ensures.written ∙ ap (λ n. c.reserve.new.self.items ++ fields_encoding n) c.orders.follows.holds-at-none ∙ ap (λ z. z ++ fields_encoding m) c.reserve.ensures.items in
    market_written old c.put_orders.new.out.items m
    (c.put_orders.ensures.written ∙ ap (λ os. c.put_fields.new.out.items ++ orders_encoding (map read_order os)) (c.orders-2.ensures.value ∙ ap (λ (n : Market). n.orders) c.orders.follows.holds-at-none) ∙ ap (λ z. z ++ orders_encoding (map read_order m.orders)) fields)

pub returns-clause-room : goal.returns-clause-room
returns-clause-room c = omega (arith, c.put_orders.ensures.capacity, c.put_fields.ensures.capacity, c.reserve.ensures.capacity)
