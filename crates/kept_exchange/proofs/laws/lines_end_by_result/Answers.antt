use Rattle.kept_exchange.proofs.Ends.{lines_end}
use Rattle.kept_exchange.proofs.laws.lines_end_by_result.Goals as goal

pub returns : goal.returns
returns g c = lines_end (g.D.Disk.state c.args._end.now)
