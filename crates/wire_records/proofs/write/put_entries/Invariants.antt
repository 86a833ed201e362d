use Rattle.std.proofs.Common.{◌≡◌, ◌+◌, ◌-◌, ◌*◌, ◌≤◌, ◌++◌, length, take, vec_len, vec_capacity}
use Rattle.std.specs.Prelude.{All}
use Rattle.std.specs.List.{flat_map}
use Rattle.wire_records.specs.Bodies.{entry_encoding, IsEntry}
use Rattle.wire_records.proofs.write.put_entries.Given as goal

abbrev pub invariant-loop-entry : goal.invariant-loop-entry
invariant-loop-entry l = record {
  written : l.out.items ≡ l.fn.out.items ++ flat_map entry_encoding (take l.entry-index l.entries);
  fit : All IsEntry (take l.entry-index l.entries);
  room : vec_len l.out + 6 * (length l.entries - l.entry-index) ≤ vec_capacity l.out;
}
