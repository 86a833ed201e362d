use Rattle.std.proofs.Common.{◌∙◌}
use Rattle.wire_fields.proofs.StdBytes.{bytes_high_first_is}
use Rattle.wire_fields.proofs.conversions.u128_bytes.Goals as goal

pub returns : goal.returns
returns c = c.to_be_bytes.ensures ∙ bytes_high_first_is 16 c.args.n
