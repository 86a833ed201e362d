use Rattle.std.proofs.Common.{◌≡◌, ◌+◌, ◌*◌, ◌++◌, take, vec_len, vec_capacity}
use Rattle.std.specs.List.{flat_map}
use Rattle.wire_records.specs.Bodies.{entry_encoding}
use Rattle.market_snapshot.proofs.orders.put_entries.Given as goal

abbrev pub invariant-loop-entry : goal.invariant-loop-entry
invariant-loop-entry l = record {
  written : l.out.items ≡ l.fn.out.items ++ flat_map entry_encoding (take l.entry-index l.entries);
  len : vec_len l.out ≡ vec_len l.fn.out + 6 * l.entry-index;
  capacity : vec_capacity l.out ≡ vec_capacity l.fn.out;
}
