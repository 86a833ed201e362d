use Rattle.wire_fields.proofs.Encoding.{unsigned_complete}
use Rattle.wire_fields.proofs.laws.unsigned_complete.Goals as goal

pub returns : goal.returns
returns c = unsigned_complete
