use Rattle.std.proofs.Common.{sym, subst, Ok}
use Rattle.wire_records.specs.Commands.{RunBatch}
use Rattle.journal_records.specs.Views.{answer_of}
use Rattle.batch_audit.specs.Private.{IsReadWeighed, IsOutcomeFor}
use Rattle.batch_audit.proofs.Served.{refused_weighed, batch_not_due}
use Rattle.batch_audit.proofs.judging.judge_batch.Goals as goal

pub returns-in-Err-clause-weighed : goal.returns-in-Err-clause-weighed
returns-in-Err-clause-weighed c =
    subst (IsReadWeighed c.args.market.now (Ok (RunBatch c.args.budget)) (answer_of c.args.seen.now)) (sym c.refused_where.ensures)
    (refused_weighed c.is_plain-refused.result c.args.market.now c.args.budget (answer_of c.args.seen.now) c.in-Err.refusal c.in-Err.ensures.first c.is_plain-refused.ensures)

pub returns-in-None-clause-weighed : goal.returns-in-None-clause-weighed
returns-in-None-clause-weighed c =
    batch_not_due c.args.market.now c.args.budget (answer_of c.args.seen.now) c.in_default.ensures.first
    (subst (IsOutcomeFor c.args.market.now c.args.budget (answer_of c.args.seen.now)) c.in-None.is c.in_ok-outcome_for.ensures.outcome)
