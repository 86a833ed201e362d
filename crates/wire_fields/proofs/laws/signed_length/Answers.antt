use Rattle.wire_fields.proofs.Encoding.{length-signed}
use Rattle.wire_fields.proofs.laws.signed_length.Goals as goal

pub returns : goal.returns
returns c = length-signed
