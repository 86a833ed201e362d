use Rattle.journal_keeping.proofs.Again.{can_begin_again}
use Rattle.journal_keeping.proofs.laws.can_begin_again.Goals as goal

pub returns : goal.returns
returns g c = can_begin_again (g.D.Disk.state c.args._start.now) (g.D.Disk.state c.args._end.now)
