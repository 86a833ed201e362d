use Rattle.std.proofs.Common.{◌≡◌, ◌+◌, ◌*◌, ◌++◌, take, vec_len, vec_capacity}
use Rattle.std.specs.List.{flat_map}
use Rattle.wire_fields.specs.Numbers.{unsigned, signed}
use Rattle.market_snapshot.proofs.writing.put_batches.Given as goal

abbrev pub invariant-loop-asset : goal.invariant-loop-asset
invariant-loop-asset l = record {
  written : l.out.items ≡ ((l.fn.out.items ++ unsigned 8 l.market.next_order) ++ unsigned 4 l.market.batches) ++ flat_map (signed 8) (take l.asset l.market.last_prices);
  len : vec_len l.out ≡ vec_len l.fn.out + 12 + 8 * l.asset;
  capacity : vec_capacity l.out ≡ vec_capacity l.fn.out;
}
