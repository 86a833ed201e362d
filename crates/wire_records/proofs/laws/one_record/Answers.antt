use Rattle.wire_records.proofs.Encoded.{encoding_unique}
use Rattle.wire_records.proofs.laws.one_record.Goals as goal

pub returns : goal.returns
returns c = encoding_unique
