use Rattle.std.proofs.Common.{◌∙◌, ap, sym, subst, arith}
use Rattle.std.proofs.lemmas.List.{take_rest}
use Rattle.wire_records.specs.Commands.{Request}
use Rattle.wire_records.specs.Private.{entries_in, EncodeEntries}
use Rattle.wire_records.proofs.RequestsTold.{row_there}
use Rattle.wire_records.proofs.place.PlaceView.row.Goals as goal

pub slice_bounds-result-count : goal.slice_bounds-result-count
slice_bounds-result-count c = omega (arith, c.self.invariant.size)

pub slice_bounds-result-start : goal.slice_bounds-result-start
slice_bounds-result-start c = omega (arith, c.self.invariant.size)

pub invariant_of-result : goal.invariant_of-result
invariant_of-result c =
    let bytes = c.self.inside.bytes.now in
    subst (λ xs. EncodeEntries xs (entries_in xs)) (sym (take_rest bytes 33)) (row_there bytes c.self.invariant)

pub returns : goal.returns
returns c = ap entries_in (take_rest c.self.inside.bytes.now 33) ∙ ap (λ (r : Request). r.row) c.self.view_is
