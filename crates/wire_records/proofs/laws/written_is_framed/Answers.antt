use Rattle.wire_records.proofs.OneAnswer.{written_framed}
use Rattle.wire_records.proofs.laws.written_is_framed.Goals as goal

pub returns : goal.returns
returns c = written_framed
