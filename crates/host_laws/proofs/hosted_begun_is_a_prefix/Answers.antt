use Rattle.host_laws.proofs.Prefixes.{hosted_begun_is_a_prefix}
use Rattle.host_laws.proofs.hosted_begun_is_a_prefix.Goals as goal

pub returns : goal.returns
returns g c = hosted_begun_is_a_prefix c.one_hearing.ensures c.one_wish.ensures c.one_beginning.ensures (g.D.Disk.state c.args._start.now) (g.D.Disk.state c.args._end.now) (g.D.Disk.state c.args._other.now) (g.D.Disk.state c.args._last.now)
