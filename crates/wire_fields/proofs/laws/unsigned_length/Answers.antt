use Rattle.wire_fields.proofs.Encoding.{length-unsigned}
use Rattle.wire_fields.proofs.laws.unsigned_length.Goals as goal

pub returns : goal.returns
returns c = length-unsigned
