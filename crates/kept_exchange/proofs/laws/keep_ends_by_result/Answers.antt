use Rattle.kept_exchange.proofs.Ends.{keep_ends}
use Rattle.kept_exchange.proofs.laws.keep_ends_by_result.Goals as goal

pub returns : goal.returns
returns g c = keep_ends (g.D.Disk.state c.args._end.now)
