use Rattle.kept_laws.proofs.KeptEnds.{one_kept_output}
use Rattle.kept_laws.proofs.one_kept_output.Goals as goal

pub returns : goal.returns
returns g c = one_kept_output (g.D.Disk.state c.args._end.now) (g.D.Disk.state c.args._other.now)
