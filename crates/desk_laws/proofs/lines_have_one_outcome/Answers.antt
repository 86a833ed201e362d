use Rattle.desk_laws.proofs.Again.{lines_have_one_outcome}
use Rattle.desk_laws.proofs.lines_have_one_outcome.Goals as goal

pub returns : goal.returns
returns c = lines_have_one_outcome c.one_hearing.ensures c.one_wish.ensures
