use Rattle.std.proofs.Common.{◌≡◌, ◌*◌, ◌++◌, length, ap, sym, ◌∙◌, arith}
use Rattle.std.specs.List.{flat_map}
use Rattle.journal_records.specs.Bodies.{fill_encoding, IsFill}
use Rattle.journal_records.proofs.Batches.{fill_size}
use Rattle.wire_records.proofs.CodeLaws.{counted_size}
use Rattle.journal_records.specs.Private.{fill_in, fills_in}
use Rattle.journal_records.proofs.Values.{AreRead, are_read, values_one}
use Rattle.journal_records.proofs.Digits.{fixed_fills}
use Rattle.journal_records.proofs.fills_view.take_fills.Goals as goal

-- the fills of the bytes that were taken
read : (c : goal.After-as_bytes-bytes) → AreRead IsFill fill_encoding c.args.count c.as_bytes-bytes.result.now (fills_in c.as_bytes-bytes.result.now)
read c =
    let bytes = c.as_bytes-bytes.result.now in
    let len : length bytes ≡ 12 * c.args.count = ap length c.as_bytes-bytes.ensures.value ∙ c.in_ok-take.ensures.size in
    are_read IsFill fill_encoding fill_in 12 fixed_fills c.args.count _ bytes (omega (arith, len)) len c.as_bytes-bytes.ensures.bytes

pub returns-in_err-take-clause-again : goal.returns-in_err-take-clause-again
returns-in_err-take-clause-again c = λ fills rest count fit same.
    let len : length (flat_map fill_encoding fills) ≡ 12 * c.args.count = counted_size fill_encoding 12 fill_size fills ∙ ap (λ n. 12 * n) count in
    absurd ((c.in_err-take.ensures.again (flat_map fill_encoding fills) rest len same).0)

pub invariant_of-result : goal.invariant_of-result
invariant_of-result c = (read c).encodes

pub returns-clause-found : goal.returns-clause-found
returns-clause-found c =
    c.in_ok-take.ensures.found ∙ ap (λ xs. xs ++ c.take.new.self) (sym c.as_bytes-bytes.ensures.value ∙ (read c).encodes.encoded)

pub returns-clause-size : goal.returns-clause-size
returns-clause-size c = (read c).count_is

pub returns-clause-fit : goal.returns-clause-fit
returns-clause-fit c = (read c).encodes.fit

pub returns-clause-again : goal.returns-clause-again
returns-clause-again c = λ fills rest count fit same.
    let prefix = flat_map fill_encoding fills in
    let bytes = c.as_bytes-bytes.result.now in
    let len : length prefix ≡ 12 * c.args.count = counted_size fill_encoding 12 fill_size fills ∙ ap (λ n. 12 * n) count in
    let again = c.in_ok-take.ensures.again prefix rest len same in
    let encoded : bytes ≡ prefix = c.as_bytes-bytes.ensures.value ∙ again.0 in
    (values_one IsFill fill_encoding fill_in 12 fixed_fills bytes (fills_in bytes) fills ((read c).count_is ∙ sym count) (read c).encodes (record { fit = fit; encoded = encoded }), again.1)
