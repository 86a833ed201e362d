use Rattle.disk_tests.proofs.Found.{ends_known, keeps_known}
use Rattle.disk_tests.proofs.keeping.keep_next.Goals as goal

pub begin-requires : goal.begin-requires
begin-requires g c =
    ends_known (g.D.Disk.state c.args.disk.now).content (g.D.Disk.state c.read_kept.new.disk).content c.after_magic-journal.result c.read_kept.new.journal (g.D.Disk.state c.args.disk.now) (g.D.Disk.state c.read_kept.new.disk)
    c.after_magic-journal.ensures c.in_ok-read_kept.ensures.looks.content c.requires.found c.in_ok-read_kept.ensures.ends

pub add-requires-clause-kept : goal.add-requires-clause-kept
add-requires-clause-kept g c =
    keeps_known (g.D.Disk.state c.read_kept.new.disk).content (g.D.Disk.state c.begin.new.disk).content c.read_kept.new.journal c.in_ok-appender.appender (g.D.Disk.state c.read_kept.new.disk) (g.D.Disk.state c.begin.new.disk) c.in_ok-appender.ensures.told.0
    (ends_known (g.D.Disk.state c.args.disk.now).content (g.D.Disk.state c.read_kept.new.disk).content c.after_magic-journal.result c.read_kept.new.journal (g.D.Disk.state c.args.disk.now) (g.D.Disk.state c.read_kept.new.disk)
    c.after_magic-journal.ensures c.in_ok-read_kept.ensures.looks.content c.requires.found c.in_ok-read_kept.ensures.ends) c.in_ok-appender.ensures.keeps
