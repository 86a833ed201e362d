use Rattle.desk_laws.proofs.Once.{served_lines_are_heard}
use Rattle.desk_laws.proofs.served_lines_are_heard.Goals as goal

pub returns : goal.returns
returns c = served_lines_are_heard
