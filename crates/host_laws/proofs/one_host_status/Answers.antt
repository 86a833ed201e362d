use Rattle.host_laws.proofs.Statuses.{one_host_status}
use Rattle.host_laws.proofs.one_host_status.Goals as goal

pub returns : goal.returns
returns g c = one_host_status (g.D.Disk.state c.args._start.now) (g.D.Disk.state c.args._end.now) (g.D.Disk.state c.args._other.now) (g.D.Disk.state c.args._last.now) c.one_hosted_output.ensures
