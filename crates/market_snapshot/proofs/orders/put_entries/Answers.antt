use Rattle.std.proofs.Common.{◌∙◌, pos, w32, FitsSigned, get_or, take, arith, rules}
use Rattle.std.proofs.lemmas.Int.{to_z-of_z}
use Rattle.std.proofs.lemmas.List.{append_assoc, take_more, flat_map_more}
use Rattle.wire_fields.specs.Numbers.{unsigned, signed}
use Rattle.weight_rows.specs.declared.entries.Entry.{Entry}
use Rattle.wire_records.specs.Bodies.{entry_encoding}
use Rattle.market_snapshot.proofs.orders.put_entries.Goals as goal

pub loop-entry-preserved : goal.loop-entry-preserved
unfolding entry_encoding
loop-entry-preserved c =
    let none : Entry = record { asset = 0; weight = pos 0 } in
    let k = c.loop-entry.entry-index in
    let e = get_or c.args.entries.now k none in
    let weight : FitsSigned w32 e.weight = search rules in
    record {
      written =
          rw (c.put_i32.ensures.written, c.put_u16.ensures.written, to_z-of_z w32 e.weight weight, c.loop-entry.invariant.written, take_more c.args.entries.now k none c.loop-entry-test.true)
          (append_assoc _ (unsigned 2 e.asset) (signed 4 e.weight) ∙ flat_map_more entry_encoding c.args.out.now.items (take k c.args.entries.now) e);
      len = omega (arith, c.loop-entry.invariant.len, c.put_u16.ensures.len, c.put_i32.ensures.len);
      capacity = c.put_i32.ensures.capacity ∙ c.put_u16.ensures.capacity ∙ c.loop-entry.invariant.capacity;
    }
