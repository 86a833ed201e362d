use Rattle.std.proofs.Common.{◌≡◌, ◌*◌, ◌≤◌, length, take}
use Rattle.std.specs.List.{flat_map}
use Rattle.market_snapshot.specs.Encodings.{order_encoding, read_order}
use Rattle.market_snapshot.proofs.orders.orders_size.Given as goal

abbrev pub invariant-loop-order : goal.invariant-loop-order
invariant-loop-order l = record {
  size : l.size ≡ length (flat_map (λ o. order_encoding (read_order o)) (take l.order-index l.orders));
  most : l.size ≤ 149 * l.order-index;
}
