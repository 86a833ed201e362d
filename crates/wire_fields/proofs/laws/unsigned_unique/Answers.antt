use Rattle.wire_fields.proofs.Encoding.{unsigned_unique}
use Rattle.wire_fields.proofs.laws.unsigned_unique.Goals as goal

pub returns : goal.returns
returns c = unsigned_unique
