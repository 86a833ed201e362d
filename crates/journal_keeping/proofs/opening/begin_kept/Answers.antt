use Rattle.std.proofs.Common.{refl}
use Rattle.journal_keeping.proofs.Starting.{fails_open, fails_kept, kept_begun}
use Rattle.journal_keeping.proofs.opening.begin_kept.Goals as goal

pub returns-in-Err-clause-fails : goal.returns-in-Err-clause-fails
returns-in-Err-clause-fails g c =
    fails_open g.I.Input.format c.args.limit c.args.version (g.D.Disk.state c.args.disk.now) (g.D.Disk.state c.open_kept.new.disk) c.requires.found c.open_kept.ensures.moments c.open_kept.ensures.lengths (g.S.Source.rest c.args.source.now) c.in-Err.fault c.in-Err.ensures.refused c.open_kept.ensures.untouched

pub returns-in-Err-open_as-clause-fails : goal.returns-in-Err-open_as-clause-fails
returns-in-Err-open_as-clause-fails g c =
    fails_kept g.I.Input.format c.args.limit c.args.version (g.D.Disk.state c.args.disk.now) (g.D.Disk.state c.open_kept.new.disk) c.requires.found c.open_kept.ensures.moments c.open_kept.ensures.lengths (g.S.Source.rest c.args.source.now) (g.S.Source.rest c.open_as.new.source)
    c.in-Ok.writer.session c.in-Ok.writer.entries c.in-Ok.writer.appender c.in-Ok.ensures.begun c.in-Err-open_as.fault c.in-Err-open_as.ensures.fails (c.in-Err-open_as.ensures.taken refl)

pub returns-in-Ok-open_as-clause-begun : goal.returns-in-Ok-open_as-clause-begun
returns-in-Ok-open_as-clause-begun g c =
    kept_begun g.I.Input.format c.args.limit c.args.version (g.D.Disk.state c.args.disk.now) (g.D.Disk.state c.open_kept.new.disk) c.requires.found c.open_kept.ensures.moments c.open_kept.ensures.lengths (g.S.Source.rest c.args.source.now) (g.S.Source.rest c.open_as.new.source)
    c.in-Ok.writer.session c.in-Ok.writer.entries c.in-Ok.writer.appender c.in-Ok.ensures.begun (g.I.Input.window c.in-Ok-open_as.input) c.in-Ok-open_as.ensures.opens c.in-Ok.ensures.told c.in-Ok.ensures.near.0 c.in-Ok.ensures.few c.in-Ok.ensures.near.1
