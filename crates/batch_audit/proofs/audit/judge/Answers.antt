use Rattle.journal_records.specs.Views.{answer_of}
use Rattle.batch_audit.proofs.Served.{pair_weighed}
use Rattle.batch_audit.proofs.audit.judge.Goals as goal

pub returns-clause-weighed : goal.returns-clause-weighed
returns-clause-weighed c =
    pair_weighed c.in_ok-judge_record.field-0 c.args.market.now c.args.pair.now (answer_of c.args.seen.now) c.requires.seen
    (rw c.asked-asked.ensures at c.in_ok-judge_record.ensures.weighed)
