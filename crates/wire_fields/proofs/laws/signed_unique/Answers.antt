use Rattle.wire_fields.proofs.Encoding.{signed_unique}
use Rattle.wire_fields.proofs.laws.signed_unique.Goals as goal

pub returns : goal.returns
returns c = signed_unique
