use Rattle.wire_records.proofs.Codes.{code_of-unique}
use Rattle.wire_records.proofs.laws.one_refusal.Goals as goal

pub returns : goal.returns
returns c = code_of-unique
