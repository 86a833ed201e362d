use Rattle.desk_laws.proofs.Some.{lines_have_some_outcome}
use Rattle.desk_laws.proofs.lines_have_some_outcome.Goals as goal

pub returns : goal.returns
returns c = lines_have_some_outcome c.some_hearing.ensures c.some_wish.ensures
