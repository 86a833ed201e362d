use Rattle.kept_laws.proofs.KeptBegun.{kept_begun_is_a_prefix}
use Rattle.kept_laws.proofs.kept_begun_is_a_prefix.Goals as goal

pub returns : goal.returns
returns g c = kept_begun_is_a_prefix (g.D.Disk.state c.args._start.now) (g.D.Disk.state c.args._end.now) (g.D.Disk.state c.args._other.now)
