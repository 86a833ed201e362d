use Rattle.desk_laws.proofs.Unchanged.{lines_keep_consistency}
use Rattle.desk_laws.proofs.lines_keep_consistency.Goals as goal

pub returns : goal.returns
returns c = lines_keep_consistency
