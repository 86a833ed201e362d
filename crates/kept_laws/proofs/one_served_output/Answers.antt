use Rattle.kept_laws.proofs.ServedEnds.{one_served_output}
use Rattle.kept_laws.proofs.one_served_output.Goals as goal

pub returns : goal.returns
returns g c = one_served_output (g.D.Disk.state c.args._end.now) (g.D.Disk.state c.args._other.now)
