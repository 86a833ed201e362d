use Rattle.desk_lines.proofs.OneHearings.{one_hearing}
use Rattle.desk_lines.proofs.laws.one_hearing.Goals as goal

pub returns : goal.returns
returns c = one_hearing
