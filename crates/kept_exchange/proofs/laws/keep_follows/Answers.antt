use Rattle.kept_exchange.proofs.Following.{keep_follows}
use Rattle.kept_exchange.proofs.laws.keep_follows.Goals as goal

pub returns : goal.returns
returns g c = keep_follows (g.D.Disk.state c.args._start.now) (g.D.Disk.state c.args._end.now) (g.met.D.Disk.is_disk c.args._end.now)
