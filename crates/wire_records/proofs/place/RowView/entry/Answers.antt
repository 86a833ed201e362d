use Rattle.std.proofs.Common.{◌+◌, ◌*◌, ◌<◌, length, get_or, drop, pos, ap, sym, ◌∙◌, arith}
use Rattle.std.specs.List.{flat_map}
use Rattle.std.proofs.lemmas.List.{take_rest}
use Rattle.std.proofs.lemmas.Option.{slice_get-get_or}
use Rattle.weight_rows.specs.declared.entries.Entry.{Entry}
use Rattle.wire_records.specs.Bodies.{entry_encoding}
use Rattle.wire_records.specs.Private.{entries_in, EncodeEntries}
use Rattle.wire_records.proofs.Entries.{length-entries, at_place}
use Rattle.wire_records.proofs.place.RowView.entry.Goals as goal

pub overflow_mul-k : goal.overflow_mul-k
overflow_mul-k c =
    let bytes = c.self.inside.bytes.now in
    omega (arith, length-entries bytes (entries_in bytes) c.self.invariant, ap length c.self.view_is)

pub slice_bounds-entry_of-count : goal.slice_bounds-entry_of-count
slice_bounds-entry_of-count c =
    let bytes = c.self.inside.bytes.now in
    omega (arith, length-entries bytes (entries_in bytes) c.self.invariant, ap length c.self.view_is)

pub returns-clause-value : goal.returns-clause-value
returns-clause-value c =
    let bytes = c.self.inside.bytes.now in
    let row = c.args.self.now in
    let encodes : EncodeEntries bytes row = rw c.self.view_is at c.self.invariant in
    let within : c.args.k < length row = omega (arith, c.len.ensures, c.if-k-len.false) in
    let none : Entry = record { asset = 0; weight = pos 0 } in
    let e = get_or row c.args.k none in
    c.entry_of.ensures e (flat_map entry_encoding (drop (c.args.k + 1) row)) (encodes.fit c.args.k none within) (take_rest bytes (6 * c.args.k) ∙ at_place bytes row c.args.k none encodes within)
    ∙ sym (slice_get-get_or row c.args.k none within)

pub slice_bounds-entry_of-start : goal.slice_bounds-entry_of-start
slice_bounds-entry_of-start c =
    let bytes = c.self.inside.bytes.now in
    omega (arith, length-entries bytes (entries_in bytes) c.self.invariant, ap length c.self.view_is)
