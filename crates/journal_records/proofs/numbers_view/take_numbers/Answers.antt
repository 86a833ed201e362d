use Rattle.std.proofs.Common.{◌≡◌, ◌*◌, ◌++◌, length, ap, sym, ◌∙◌, arith}
use Rattle.std.specs.List.{flat_map}
use Rattle.wire_fields.specs.Numbers.{signed, IsSigned}
use Rattle.wire_fields.proofs.Encoding.{length-signed}
use Rattle.wire_records.proofs.CodeLaws.{counted_size}
use Rattle.journal_records.specs.Private.{sign_in, signs_in}
use Rattle.journal_records.proofs.Values.{AreRead, are_read, values_one}
use Rattle.journal_records.proofs.Digits.{fixed_signs}
use Rattle.journal_records.proofs.numbers_view.take_numbers.Goals as goal

-- the numbers of the bytes that were taken
read : (c : goal.After-as_bytes-bytes) → AreRead (IsSigned 8) (signed 8) c.args.count c.as_bytes-bytes.result.now (signs_in c.as_bytes-bytes.result.now)
read c =
    let bytes = c.as_bytes-bytes.result.now in
    let len : length bytes ≡ 8 * c.args.count = ap length c.as_bytes-bytes.ensures.value ∙ c.in_ok-take.ensures.size in
    are_read (IsSigned 8) (signed 8) sign_in 8 fixed_signs c.args.count _ bytes (omega (arith, len)) len c.as_bytes-bytes.ensures.bytes

pub returns-in_err-take-clause-again : goal.returns-in_err-take-clause-again
returns-in_err-take-clause-again c = λ numbers rest count fit same.
    let len : length (flat_map (signed 8) numbers) ≡ 8 * c.args.count = counted_size (signed 8) 8 (length-signed 8) numbers ∙ ap (λ n. 8 * n) count in
    absurd ((c.in_err-take.ensures.again (flat_map (signed 8) numbers) rest len same).0)

pub invariant_of-result : goal.invariant_of-result
invariant_of-result c = (read c).encodes

pub returns-clause-found : goal.returns-clause-found
returns-clause-found c =
    c.in_ok-take.ensures.found ∙ ap (λ xs. xs ++ c.take.new.self) (sym c.as_bytes-bytes.ensures.value ∙ (read c).encodes.encoded)

pub returns-clause-size : goal.returns-clause-size
returns-clause-size c = (read c).count_is

pub returns-clause-fit : goal.returns-clause-fit
returns-clause-fit c = (read c).encodes.fit

pub returns-clause-again : goal.returns-clause-again
returns-clause-again c = λ numbers rest count fit same.
    let prefix = flat_map (signed 8) numbers in
    let bytes = c.as_bytes-bytes.result.now in
    let len : length prefix ≡ 8 * c.args.count = counted_size (signed 8) 8 (length-signed 8) numbers ∙ ap (λ n. 8 * n) count in
    let again = c.in_ok-take.ensures.again prefix rest len same in
    let encoded : bytes ≡ prefix = c.as_bytes-bytes.ensures.value ∙ again.0 in
    (values_one (IsSigned 8) (signed 8) sign_in 8 fixed_signs bytes (signs_in bytes) numbers ((read c).count_is ∙ sym count) (read c).encodes (record { fit = fit; encoded = encoded }), again.1)
