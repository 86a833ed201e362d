use Rattle.std.proofs.Common.{◌<◌, ◌∙◌, FitsSigned, sym, drop, rules, arith}
use Rattle.std.proofs.lemmas.List.Elements.{All-from_get_or}
use Rattle.std.specs.Int.{w128}
use Rattle.std.proofs.lemmas.Int.{to_z-of_z}
use Rattle.std.proofs.lemmas.List.{take_rest}
use Rattle.std.proofs.lemmas.Option.{same_Some}
use Rattle.wire_fields.specs.Numbers.{signed, IsSigned}
use Rattle.byte_places.specs.Places.{signed_at}
use Rattle.byte_places.proofs.Digits.{signed_encoded_16, begins_with}
use Rattle.byte_places.proofs.numbers.i128_at.Goals as goal

pub returns : goal.returns
returns c =
    let place = c.args.place in
    let bytes = c.args.bytes.now in
    let small = All-from_get_or (λ b. b < 256) bytes 0 (λ i there. omega (arith, c.type_inv.bytes i)) in
    let at = signed_encoded_16 place bytes c.requires small in
    let begins = begins_with (IsSigned 16) (signed 16) 16 place bytes c.new.result (signed_at w128 place bytes) at (c.new.ensures ∙ take_rest bytes place) in
    let read = c.take_i128.ensures.again (signed_at w128 place bytes) (drop 16 (drop place bytes)) at.fits begins in
    let fits : FitsSigned w128 c.unwrap.result = search rules in
    to_z-of_z w128 c.unwrap.result fits ∙ same_Some _ _ (sym c.unwrap.ensures ∙ read.0)
