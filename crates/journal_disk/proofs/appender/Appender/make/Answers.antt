use Rattle.disk_edge.proofs.Moments.{then_more}
use Rattle.journal_disk.proofs.Opening.{known_new, still_known, made, still_new}
use Rattle.journal_disk.proofs.appender.Appender.make.Goals as goal

pub returns-clause-keeps : goal.returns-clause-keeps
returns-clause-keeps g c =
    made c.args.version (g.D.Disk.state c.args.disk.now).content (g.D.Disk.state c.clear.new.disk).content (g.D.Disk.state c.make_new.new.disk) _ c.requires.first (still_known (g.D.Disk.state c.args.disk.now).content (g.D.Disk.state c.clear.new.disk).content c.in_ok-clear.ensures.told) c.in_ok-make_new.ensures.written c.in_ok-make_new.ensures.kept

pub returns-in_err-make_new-clause-moments : goal.returns-in_err-make_new-clause-moments
returns-in_err-make_new-clause-moments g c = λ bytes held only.
    then_more (g.D.Disk.state c.args.disk.now) (g.D.Disk.state c.clear.new.disk) (g.D.Disk.state c.make_new.new.disk) _
    (c.clear.ensures.moments bytes held (known_new (g.D.Disk.state c.args.disk.now).content bytes held c.requires.new) only)
    (still_new (g.D.Disk.state c.clear.new.disk) (g.D.Disk.state c.make_new.new.disk) (c.in_ok-clear.ensures.images bytes held only) c.make_new.ensures.moments)

pub returns-clause-moments : goal.returns-clause-moments
returns-clause-moments g c = λ bytes held only.
    then_more (g.D.Disk.state c.args.disk.now) (g.D.Disk.state c.clear.new.disk) (g.D.Disk.state c.make_new.new.disk) _
    (c.clear.ensures.moments bytes held (known_new (g.D.Disk.state c.args.disk.now).content bytes held c.requires.new) only)
    (still_new (g.D.Disk.state c.clear.new.disk) (g.D.Disk.state c.make_new.new.disk) (c.in_ok-clear.ensures.images bytes held only) c.make_new.ensures.moments)
