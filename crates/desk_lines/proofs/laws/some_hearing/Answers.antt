use Rattle.desk_lines.proofs.OneHearings.{some_hearing}
use Rattle.desk_lines.proofs.laws.some_hearing.Goals as goal

pub returns : goal.returns
returns c = some_hearing
