use Rattle.std.proofs.Common.{◌<◌, ◌^◌, pos, w32, FitsSigned, get_or, take, refl, ◌∙◌, arith, rules}
use Rattle.std.proofs.lemmas.Int.{to_z-of_z}
use Rattle.std.proofs.lemmas.List.Elements.{All-more}
use Rattle.std.proofs.lemmas.List.{append_assoc, take_more, flat_map_more}
use Rattle.wire_fields.specs.Numbers.{unsigned, signed}
use Rattle.wire_fields.proofs.Encoding.{IsSigned-from_fits}
use Rattle.weight_rows.specs.declared.entries.Entry.{Entry}
use Rattle.wire_records.specs.Bodies.{entry_encoding, IsEntry}
use Rattle.wire_records.proofs.write.put_entries.Goals as goal

pub loop-entry-preserved : goal.loop-entry-preserved
unfolding entry_encoding
loop-entry-preserved c =
    let none : Entry = record { asset = 0; weight = pos 0 } in
    let k = c.loop-entry.entry-index in
    let e = get_or c.args.entries.now k none in
    let asset : e.asset < 2 ^ 16 = search rules in
    let weight : FitsSigned w32 e.weight = search rules in
    record {
      written =
          rw (c.put_i32.ensures.written, c.put_u16.ensures.written, to_z-of_z w32 e.weight weight, c.loop-entry.invariant.written, take_more c.args.entries.now k none c.loop-entry-test.true)
          (append_assoc _ (unsigned 2 e.asset) (signed 4 e.weight) ∙ flat_map_more entry_encoding c.args.out.now.items (take k c.args.entries.now) e);
      fit = All-more IsEntry c.args.entries.now k none c.loop-entry-test.true c.loop-entry.invariant.fit (asset, IsSigned-from_fits 4 w32 refl e.weight weight);
      room = omega (arith, c.loop-entry.invariant.room, c.loop-entry-test.true, c.put_u16.ensures.len, c.put_u16.ensures.capacity, c.put_i32.ensures.len, c.put_i32.ensures.capacity);
    }
