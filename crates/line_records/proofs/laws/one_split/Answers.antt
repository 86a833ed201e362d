use Rattle.line_records.proofs.OneSplits.{one_split}
use Rattle.line_records.proofs.laws.one_split.Goals as goal

pub returns : goal.returns
returns g c = one_split _
