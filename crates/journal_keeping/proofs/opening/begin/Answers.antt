use Rattle.std.proofs.Common.{IfSome, Err, List, ℕ, ap, sym, subst}
use Rattle.journal_disk.proofs.GoingOn.{looks_none}
use Rattle.journal_keeping.specs.declared.fault.OpenFault.{OpenFault}
use Rattle.journal_keeping.specs.declared.fault.OpenFault.TheVariants.{Memory}
use Rattle.journal_keeping.specs.Beginning.{OpensNot}
use Rattle.journal_keeping.proofs.Starting.{fails_looked, fails_first, begun_first}
use Rattle.journal_keeping.proofs.Begun.{not_recovered}
use Rattle.journal_keeping.proofs.Counts.{on_ok, on_err}
use Rattle.journal_keeping.proofs.Making.{each_some}
use Rattle.journal_keeping.proofs.opening.begin.Goals as goal

pub returns-in-Err-clause-fails : goal.returns-in-Err-clause-fails
returns-in-Err-clause-fails g c =
    fails_looked g.I.Input.format c.args.limit (g.D.Disk.state c.args.disk.now) (g.D.Disk.state c.args.disk.now) (g.S.Source.rest c.args.source.now) Memory (looks_none (g.D.Disk.state c.args.disk.now) (g.met.D.Disk.is_disk c.args.disk.now)) (each_some (g.D.Disk.state c.args.disk.now).content _ (λ (held : List ℕ). tt))

pub returns-in-Ok-Some-clause-begun : goal.returns-in-Ok-Some-clause-begun
returns-in-Ok-Some-clause-begun g c =
    on_ok c.begin_kept.result _ _ (λ b begun. begun_first g.I.Input.format c.args.limit (g.D.Disk.state c.args.disk.now) (g.D.Disk.state c.recover.new.disk) (g.D.Disk.state c.begin_kept.new.disk) (g.S.Source.rest c.args.source.now) (g.S.Source.rest c.begin_kept.new.source) c.recover.ensures.looks (g.met.D.Disk.is_disk c.recover.new.disk) (g.I.Input.window b.input) b.writer.session b.writer.entries b.writer.appender begun) c.begin_kept.ensures.begun

pub returns-in-Ok-Some-clause-fails : goal.returns-in-Ok-Some-clause-fails
returns-in-Ok-Some-clause-fails g c =
    on_err c.begin_kept.result _ _ (λ fault fails. fails_first g.I.Input.format c.args.limit (g.D.Disk.state c.args.disk.now) (g.D.Disk.state c.recover.new.disk) (g.D.Disk.state c.begin_kept.new.disk) (g.S.Source.rest c.args.source.now) (g.S.Source.rest c.begin_kept.new.source) c.recover.ensures.looks (g.met.D.Disk.is_disk c.recover.new.disk) fault fails) c.begin_kept.ensures.fails

pub returns-in-Ok-None-clause-begun : goal.returns-in-Ok-None-clause-begun
returns-in-Ok-None-clause-begun g c =
    on_ok c.begin_new.result _ _ (λ b begun. begun_first g.I.Input.format c.args.limit (g.D.Disk.state c.args.disk.now) (g.D.Disk.state c.recover.new.disk) (g.D.Disk.state c.begin_new.new.disk) (g.S.Source.rest c.args.source.now) (g.S.Source.rest c.begin_new.new.source) c.recover.ensures.looks (g.met.D.Disk.is_disk c.recover.new.disk) (g.I.Input.window b.input) b.writer.session b.writer.entries b.writer.appender begun) c.begin_new.ensures.begun

pub returns-in-Ok-None-clause-fails : goal.returns-in-Ok-None-clause-fails
returns-in-Ok-None-clause-fails g c =
    on_err c.begin_new.result _ _ (λ fault fails. fails_first g.I.Input.format c.args.limit (g.D.Disk.state c.args.disk.now) (g.D.Disk.state c.recover.new.disk) (g.D.Disk.state c.begin_new.new.disk) (g.S.Source.rest c.args.source.now) (g.S.Source.rest c.begin_new.new.source) c.recover.ensures.looks (g.met.D.Disk.is_disk c.recover.new.disk) fault fails) c.begin_new.ensures.fails

pub returns-in-Err-recover-clause-fails : goal.returns-in-Err-recover-clause-fails
returns-in-Err-recover-clause-fails g c =
    fails_looked g.I.Input.format c.args.limit (g.D.Disk.state c.args.disk.now) (g.D.Disk.state c.recover.new.disk) (g.S.Source.rest c.args.source.now) c.from.result c.recover.ensures.looks
    (subst (λ (f : OpenFault). IfSome (g.D.Disk.state c.args.disk.now).content (λ held. OpensNot held (g.D.Disk.state c.recover.new.disk) f)) (sym c.from.ensures) (not_recovered (g.D.Disk.state c.args.disk.now).content (g.D.Disk.state c.recover.new.disk) c.in-Err-recover.fault c.recover.ensures.looks.content c.in-Err-recover.ensures.refused (λ is. c.in-Err-recover.ensures.foreign (ap Err is))))
