use Rattle.std.proofs.Common.{◌<◌, ◌∙◌, sym, drop, arith}
use Rattle.std.proofs.lemmas.List.Elements.{All-from_get_or}
use Rattle.std.proofs.lemmas.List.{take_rest}
use Rattle.std.proofs.lemmas.Option.{same_Some}
use Rattle.wire_fields.specs.Numbers.{unsigned, IsUnsigned}
use Rattle.byte_places.specs.Places.{unsigned_at}
use Rattle.byte_places.proofs.Digits.{unsigned_encoded, begins_with}
use Rattle.byte_places.proofs.numbers.u16_at.Goals as goal

pub returns : goal.returns
returns c =
    let place = c.args.place in
    let bytes = c.args.bytes.now in
    let small = All-from_get_or (λ b. b < 256) bytes 0 (λ i there. omega (arith, c.type_inv.bytes i)) in
    let at = unsigned_encoded 2 place bytes c.requires small in
    let begins = begins_with (IsUnsigned 2) (unsigned 2) 2 place bytes c.new.result (unsigned_at 2 place bytes) at (c.new.ensures ∙ take_rest bytes place) in
    let read = c.take_u16.ensures.again (unsigned_at 2 place bytes) (drop 2 (drop place bytes)) at.fits begins in
    same_Some _ _ (sym c.unwrap.ensures ∙ read.0)
