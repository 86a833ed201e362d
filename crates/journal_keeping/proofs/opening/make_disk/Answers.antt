use Rattle.std.proofs.Common.{◌+◌, length, sym, ◌∙◌, arith}
use Rattle.journal_disk.proofs.Lengths.{reach_wider, reach_more}
use Rattle.journal_keeping.proofs.MakingDisk.{not_empty, made_keeps, made_moments}
use Rattle.journal_keeping.proofs.opening.make_disk.Goals as goal

pub returns-in-Ok-append_first-clause-keeps : goal.returns-in-Ok-append_first-clause-keeps
returns-in-Ok-append_first-clause-keeps g c =
    made_keeps c.args.version c.args.stored.now c.make.new.self (g.D.Disk.state c.args.disk.now) (g.D.Disk.state c.make.new.disk) (g.D.Disk.state c.append_first.new.disk) (not_empty (length c.args.stored.now) (sym c.if-is_empty.false ∙ c.is_empty.ensures)) (g.D.Disk.state c.args.disk.now).content c.append_first.new.self c.in-Ok.ensures.keeps c.in-Ok-append_first.ensures.kept

pub returns-in-Ok-append_first-clause-moments : goal.returns-in-Ok-append_first-clause-moments
returns-in-Ok-append_first-clause-moments g c =
    made_moments c.args.version c.args.stored.now c.make.new.self (g.D.Disk.state c.args.disk.now) (g.D.Disk.state c.make.new.disk) (g.D.Disk.state c.append_first.new.disk) (not_empty (length c.args.stored.now) (sym c.if-is_empty.false ∙ c.is_empty.ensures)) c.in-Ok.ensures.keeps c.make.ensures.moments c.append_first.ensures.moments

pub returns-in-Err-append_first-clause-moments : goal.returns-in-Err-append_first-clause-moments
returns-in-Err-append_first-clause-moments g c =
    made_moments c.args.version c.args.stored.now c.make.new.self (g.D.Disk.state c.args.disk.now) (g.D.Disk.state c.make.new.disk) (g.D.Disk.state c.append_first.new.disk) (not_empty (length c.args.stored.now) (sym c.if-is_empty.false ∙ c.is_empty.ensures)) c.in-Ok.ensures.keeps c.make.ensures.moments c.append_first.ensures.moments

pub returns-in-Ok-append_first-clause-lengths : goal.returns-in-Ok-append_first-clause-lengths
returns-in-Ok-append_first-clause-lengths g c =
    reach_more (9 + length c.args.stored.now) (g.D.Disk.state c.args.disk.now) (g.D.Disk.state c.make.new.disk) (g.D.Disk.state c.append_first.new.disk) (g.met.D.Disk.is_disk c.make.new.disk) (reach_wider 9 (9 + length c.args.stored.now) (g.D.Disk.state c.args.disk.now) (g.D.Disk.state c.make.new.disk) (omega arith) c.make.ensures.lengths) c.append_first.ensures.lengths

pub returns-in-Err-append_first-clause-lengths : goal.returns-in-Err-append_first-clause-lengths
returns-in-Err-append_first-clause-lengths g c =
    reach_more (9 + length c.args.stored.now) (g.D.Disk.state c.args.disk.now) (g.D.Disk.state c.make.new.disk) (g.D.Disk.state c.append_first.new.disk) (g.met.D.Disk.is_disk c.make.new.disk) (reach_wider 9 (9 + length c.args.stored.now) (g.D.Disk.state c.args.disk.now) (g.D.Disk.state c.make.new.disk) (omega arith) c.make.ensures.lengths) c.append_first.ensures.lengths
