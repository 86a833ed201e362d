use Rattle.wire_fields.proofs.Encoding.{signed_complete}
use Rattle.wire_fields.proofs.laws.signed_complete.Goals as goal

pub returns : goal.returns
returns c = signed_complete
