use Rattle.host_laws.proofs.Results.{one_hosted_output}
use Rattle.host_laws.proofs.one_hosted_output.Goals as goal

pub returns : goal.returns
returns g c = one_hosted_output c.one_hearing.ensures c.one_wish.ensures c.one_beginning.ensures (g.D.Disk.state c.args._start.now) (g.D.Disk.state c.args._end.now) (g.D.Disk.state c.args._other.now) (g.D.Disk.state c.args._last.now)
