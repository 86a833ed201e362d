use Rattle.wire_records.proofs.OneAnswer.{prefix_unique}
use Rattle.wire_records.proofs.laws.one_prefix.Goals as goal

pub returns : goal.returns
returns c = prefix_unique
