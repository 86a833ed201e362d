use Rattle.host_laws.proofs.Statuses.{host_begun_is_a_prefix}
use Rattle.host_laws.proofs.host_begun_is_a_prefix.Goals as goal

pub returns : goal.returns
returns g c = host_begun_is_a_prefix (g.D.Disk.state c.args._start.now) (g.D.Disk.state c.args._end.now) (g.D.Disk.state c.args._other.now) (g.D.Disk.state c.args._last.now) c.hosted_begun_is_a_prefix.ensures
