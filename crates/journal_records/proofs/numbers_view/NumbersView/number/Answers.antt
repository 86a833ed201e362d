use Rattle.std.proofs.Common.{◌+◌, ◌*◌, ◌<◌, length, get_or, drop, pos, ap, sym, ◌∙◌, arith}
use Rattle.std.specs.List.{flat_map}
use Rattle.std.proofs.lemmas.List.{take_rest}
use Rattle.std.proofs.lemmas.Option.{slice_get-get_or}
use Rattle.wire_fields.specs.Numbers.{signed, IsSigned}
use Rattle.journal_records.specs.Private.{sign_in, signs_in, EncodeSigns}
use Rattle.journal_records.proofs.Values.{length-encoded, at_place}
use Rattle.journal_records.proofs.Digits.{fixed_signs}
use Rattle.journal_records.proofs.numbers_view.NumbersView.number.Goals as goal

pub overflow_mul-k : goal.overflow_mul-k
overflow_mul-k c =
    let bytes = c.self.inside.bytes.now in
    omega (arith, length-encoded (IsSigned 8) (signed 8) sign_in 8 fixed_signs bytes (signs_in bytes) c.self.invariant, ap length c.self.view_is)

pub slice_bounds-number_of-count : goal.slice_bounds-number_of-count
slice_bounds-number_of-count c =
    let bytes = c.self.inside.bytes.now in
    omega (arith, length-encoded (IsSigned 8) (signed 8) sign_in 8 fixed_signs bytes (signs_in bytes) c.self.invariant, ap length c.self.view_is)

pub slice_bounds-number_of-start : goal.slice_bounds-number_of-start
slice_bounds-number_of-start c =
    let bytes = c.self.inside.bytes.now in
    omega (arith, length-encoded (IsSigned 8) (signed 8) sign_in 8 fixed_signs bytes (signs_in bytes) c.self.invariant, ap length c.self.view_is)

pub returns : goal.returns
returns c =
    let bytes = c.self.inside.bytes.now in
    let numbers = c.args.self.now in
    let encodes : EncodeSigns bytes numbers = rw c.self.view_is at c.self.invariant in
    let within : c.args.k < length numbers = omega (arith, c.len.ensures, c.if-k-len.false) in
    let z = get_or numbers c.args.k (pos 0) in
    c.number_of.ensures z (flat_map (signed 8) (drop (c.args.k + 1) numbers)) (encodes.fit c.args.k (pos 0) within)
    (take_rest bytes (8 * c.args.k) ∙ at_place (IsSigned 8) (signed 8) sign_in 8 fixed_signs bytes numbers c.args.k (pos 0) encodes within)
    ∙ sym (slice_get-get_or numbers c.args.k (pos 0) within)
