use Rattle.line_records.proofs.Saying.{lines_leave}
use Rattle.line_records.proofs.laws.lines_leave.Goals as goal

pub returns : goal.returns
returns c = lines_leave
