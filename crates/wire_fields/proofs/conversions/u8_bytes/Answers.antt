use Rattle.std.proofs.Common.{◌≡◌, ◌%◌, ◌∷◌, [], ap, ◌∙◌, arith}
use Rattle.wire_fields.specs.Numbers.{unsigned}
use Rattle.wire_fields.proofs.conversions.u8_bytes.Goals as goal

pub returns : goal.returns
unfolding unsigned
returns c =
    let same : c.args.n ≡ c.args.n % 256 = omega arith in
    c.to_be_bytes.ensures ∙ ap (λ b. b ∷ []) same
