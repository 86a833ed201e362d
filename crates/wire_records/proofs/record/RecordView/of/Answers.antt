use Rattle.std.proofs.Common.{sym, arith}
use Rattle.wire_records.proofs.Bodies.{same_record}
use Rattle.wire_records.proofs.RequestPlaces.{tag_first, body_after, some_bytes}
use Rattle.wire_records.proofs.record.RecordView.of.Goals as goal

pub bounds-bytes-0 : goal.bounds-bytes-0
bounds-bytes-0 c = omega (arith, some_bytes c.args.bytes.now c.requires.0 c.requires.1)

pub slice_bounds-result-count : goal.slice_bounds-result-count
slice_bounds-result-count c = some_bytes c.args.bytes.now c.requires.0 c.requires.1

pub slice_bounds-result-start : goal.slice_bounds-result-start
slice_bounds-result-start c = some_bytes c.args.bytes.now c.requires.0 c.requires.1

pub invariant_of-result : goal.invariant_of-result
invariant_of-result c =
    let is = c.requires.1 in
    rw (tag_first c.args.bytes.now c.requires.0 is, body_after c.args.bytes.now c.requires.0 is) is.encoded

pub returns : goal.returns
returns c = λ asked is. sym (same_record asked _ _ (sym (tag_first c.args.bytes.now asked is)) (sym (body_after c.args.bytes.now asked is)))
