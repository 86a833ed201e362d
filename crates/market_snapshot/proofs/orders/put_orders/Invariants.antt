use Rattle.std.proofs.Common.{◌≡◌, ◌+◌, ◌^◌, ◌<◌, ◌++◌, length, take, vec_len, vec_capacity}
use Rattle.std.specs.Prelude.{All}
use Rattle.std.specs.List.{flat_map}
use Rattle.wire_fields.specs.Numbers.{unsigned}
use Rattle.flow_orders.specs.Orders.{Order}
use Rattle.market_snapshot.specs.Encodings.{order_encoding, read_order}
use Rattle.market_snapshot.proofs.orders.put_orders.Given as goal

abbrev pub invariant-loop-order : goal.invariant-loop-order
invariant-loop-order l = record {
  written : l.out.items ≡ (l.fn.out.items ++ unsigned 4 (length l.orders)) ++ flat_map (λ o. order_encoding (read_order o)) (take l.order-index l.orders);
  len : vec_len l.out ≡ vec_len l.fn.out + 4 + length (flat_map (λ o. order_encoding (read_order o)) (take l.order-index l.orders));
  capacity : vec_capacity l.out ≡ vec_capacity l.fn.out;
  last : All (λ (o : Order). o.last < 2 ^ 32) (take l.order-index l.orders);
}
