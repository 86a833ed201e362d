use Rattle.wire_fields.proofs.Encoding.{All-signed}
use Rattle.wire_fields.proofs.laws.signed_bytes.Goals as goal

pub returns : goal.returns
returns c = All-signed
