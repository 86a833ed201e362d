use Rattle.wire_fields.proofs.Encoding.{All-unsigned}
use Rattle.wire_fields.proofs.laws.unsigned_bytes.Goals as goal

pub returns : goal.returns
returns c = All-unsigned
