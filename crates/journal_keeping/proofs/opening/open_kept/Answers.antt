use Rattle.std.proofs.Common.{IfSome, Err, ap, sym, subst, ◌∙◌, arith}
use Rattle.market_rules.specs.Market.{Market}
use Rattle.journal_disk.proofs.Lengths.{reach_wider, reach_more, reach_looks}
use Rattle.journal_keeping.specs.Faults.{of_disk}
use Rattle.journal_keeping.specs.Beginning.{IsKeptOn}
use Rattle.journal_keeping.proofs.Counts.{went_on, later_call, blames_alike}
use Rattle.journal_keeping.proofs.Begun.{begun, begins_known, looks_alone, can_begin, not_begun_known, is_failed, same_fault, err_fault, none_read_up}
use Rattle.journal_keeping.proofs.opening.open_kept.Goals as goal

pub begin-requires : goal.begin-requires
begin-requires g c = can_begin (g.D.Disk.state c.args.disk.now).content (g.D.Disk.state c.read_up.new.disk).content c.args.version c.in-Ok.read.audit c.in-Ok.read.entries c.read_up.new.journal (g.D.Disk.state c.read_up.new.disk) c.in-Ok.ensures.looks.content c.in-Ok.ensures.read

pub returns-in-Ok-begin-clause-begun : goal.returns-in-Ok-begin-clause-begun
returns-in-Ok-begin-clause-begun g c =
    subst (λ (m : Market). IfSome (g.D.Disk.state c.args.disk.now).content (λ held. IsKeptOn c.args.version held m c.in-Ok.read.entries c.in-Ok-begin.appender (g.D.Disk.state c.begin.new.disk))) (sym (c.over.ensures ∙ c.into_market.ensures))
    (begun (g.D.Disk.state c.args.disk.now).content c.args.version c.in-Ok.read.audit c.in-Ok.read.entries c.read_up.new.journal c.in-Ok-begin.appender (g.D.Disk.state c.read_up.new.disk) (g.D.Disk.state c.begin.new.disk) c.in-Ok.ensures.read c.in-Ok-begin.ensures.keeps)

pub returns-in-Ok-begin-clause-moments : goal.returns-in-Ok-begin-clause-moments
returns-in-Ok-begin-clause-moments g c = λ was old market holds.
    begins_known (g.D.Disk.state c.args.disk.now) was old market holds c.args.version (g.D.Disk.state c.read_up.new.disk) (g.D.Disk.state c.begin.new.disk) c.in-Ok.read.audit c.in-Ok.read.entries c.read_up.new.journal c.in-Ok.ensures.looks c.in-Ok.ensures.read c.begin.ensures.moments

pub returns-in-Err-begin-clause-moments : goal.returns-in-Err-begin-clause-moments
returns-in-Err-begin-clause-moments g c = λ was old market holds.
    begins_known (g.D.Disk.state c.args.disk.now) was old market holds c.args.version (g.D.Disk.state c.read_up.new.disk) (g.D.Disk.state c.begin.new.disk) c.in-Ok.read.audit c.in-Ok.read.entries c.read_up.new.journal c.in-Ok.ensures.looks c.in-Ok.ensures.read c.begin.ensures.moments

pub returns-in-Ok-begin-clause-untouched : goal.returns-in-Ok-begin-clause-untouched
returns-in-Ok-begin-clause-untouched g c = none_read_up (g.D.Disk.state c.args.disk.now).content c.args.version c.in-Ok.read.audit c.in-Ok.read.entries c.read_up.new.journal (g.D.Disk.state c.read_up.new.disk) _ c.in-Ok.ensures.read

pub returns-in-Err-begin-clause-untouched : goal.returns-in-Err-begin-clause-untouched
returns-in-Err-begin-clause-untouched g c = none_read_up (g.D.Disk.state c.args.disk.now).content c.args.version c.in-Ok.read.audit c.in-Ok.read.entries c.read_up.new.journal (g.D.Disk.state c.read_up.new.disk) _ c.in-Ok.ensures.read

pub returns-in-Ok-begin-clause-cause : goal.returns-in-Ok-begin-clause-cause
returns-in-Ok-begin-clause-cause g c =
    later_call _ _ (g.D.Disk.state c.args.disk.now).faults (g.D.Disk.state c.read_up.new.disk).faults (g.D.Disk.state c.begin.new.disk).faults c.in-Ok.ensures.cause (λ e. cc e)
    (went_on _ _ (g.D.Disk.state c.read_up.new.disk).faults (g.D.Disk.state c.begin.new.disk).faults c.in-Ok-begin.ensures.cause (λ e. cc e) (λ e. cc e))

pub returns-in-Err-begin-clause-refused : goal.returns-in-Err-begin-clause-refused
returns-in-Err-begin-clause-refused g c = not_begun_known (g.D.Disk.state c.args.disk.now).content (g.D.Disk.state c.begin.new.disk) c.in-Err-begin.fault c.from.result c.from.ensures c.in-Err-begin.ensures.refused

pub returns-in-Err-begin-clause-cause : goal.returns-in-Err-begin-clause-cause
returns-in-Err-begin-clause-cause g c =
    later_call _ _ (g.D.Disk.state c.args.disk.now).faults (g.D.Disk.state c.read_up.new.disk).faults (g.D.Disk.state c.begin.new.disk).faults c.in-Ok.ensures.cause (λ e. cc e)
    (blames_alike _ _ (g.D.Disk.state c.read_up.new.disk).faults (g.D.Disk.state c.begin.new.disk).faults
    (λ e. ap Err (c.from.ensures ∙ ap of_disk (err_fault c.in-Err-begin.fault _ e))) (λ e. ap Err (is_failed c.in-Err-begin.fault (sym c.from.ensures ∙ same_fault c.from.result _ e))) c.in-Err-begin.ensures.cause)

pub returns-in-Err-clause-moments : goal.returns-in-Err-clause-moments
returns-in-Err-clause-moments g c = λ was old market holds. looks_alone was old (g.D.Disk.state c.args.disk.now) (g.D.Disk.state c.read_up.new.disk) c.in-Err.ensures.looks

pub returns-in-Ok-begin-clause-lengths : goal.returns-in-Ok-begin-clause-lengths
returns-in-Ok-begin-clause-lengths g c =
    reach_more 9 (g.D.Disk.state c.args.disk.now) (g.D.Disk.state c.read_up.new.disk) (g.D.Disk.state c.begin.new.disk) (g.met.D.Disk.is_disk c.read_up.new.disk) (reach_looks 9 (g.D.Disk.state c.args.disk.now) (g.D.Disk.state c.read_up.new.disk) c.in-Ok.ensures.looks) (reach_wider 0 9 (g.D.Disk.state c.read_up.new.disk) (g.D.Disk.state c.begin.new.disk) (omega arith) c.begin.ensures.lengths)

pub returns-in-Err-begin-clause-lengths : goal.returns-in-Err-begin-clause-lengths
returns-in-Err-begin-clause-lengths g c =
    reach_more 9 (g.D.Disk.state c.args.disk.now) (g.D.Disk.state c.read_up.new.disk) (g.D.Disk.state c.begin.new.disk) (g.met.D.Disk.is_disk c.read_up.new.disk) (reach_looks 9 (g.D.Disk.state c.args.disk.now) (g.D.Disk.state c.read_up.new.disk) c.in-Ok.ensures.looks) (reach_wider 0 9 (g.D.Disk.state c.read_up.new.disk) (g.D.Disk.state c.begin.new.disk) (omega arith) c.begin.ensures.lengths)
