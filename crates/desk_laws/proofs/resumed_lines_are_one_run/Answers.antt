use Rattle.desk_laws.proofs.Resumed.{resumed_lines_are_one_run}
use Rattle.desk_laws.proofs.resumed_lines_are_one_run.Goals as goal

pub returns : goal.returns
returns c = resumed_lines_are_one_run c.one_hearing.ensures c.one_wish.ensures
