use Rattle.kept_exchange.proofs.Following.{lines_follow}
use Rattle.kept_exchange.proofs.laws.lines_follow.Goals as goal

pub returns : goal.returns
returns g c = lines_follow (g.D.Disk.state c.args._start.now) (g.D.Disk.state c.args._end.now) (g.met.D.Disk.is_disk c.args._end.now)
