use Rattle.std.proofs.Common.{sym, subst}
use Rattle.journal_records.specs.Views.{answer_of}
use Rattle.batch_audit.specs.Findings.{IsDue}
use Rattle.batch_audit.specs.Private.{IsFoundWhere}
use Rattle.batch_audit.proofs.Found.{clearing_where, skip_where}
use Rattle.batch_audit.proofs.Served.{on_ok}
use Rattle.batch_audit.proofs.explaining.outcome_finding.Goals as goal

pub returns-else-batch-next-clause-found : goal.returns-else-batch-next-clause-found
returns-else-batch-next-clause-found c =
    on_ok
    (λ found holds. subst (λ seen. IsFoundWhere c.args.market.now (λ asked. IsDue c.args.market.now asked c.args.budget) (answer_of seen) found) (sym c.in-Cleared.is)
    (clearing_where c.args.market.now c.args.budget _ _ found (rw (c.batch.ensures, c.batches-next.ensures.value) at c.if-batch-next.false) holds))
    c.clearing_finding.result c.clearing_finding.ensures.found

pub returns-else-batch-next-2-clause-found : goal.returns-else-batch-next-2-clause-found
returns-else-batch-next-2-clause-found c =
    on_ok
    (λ found holds. subst (λ seen. IsFoundWhere c.args.market.now (λ asked. IsDue c.args.market.now asked c.args.budget) (answer_of seen) found) (sym c.in-Skipped.is)
    (skip_where c.args.market.now c.args.budget _ _ found (rw (c.batch-in-Skipped.ensures, c.batches-next.ensures.value) at c.if-batch-next-2.false) holds))
    c.skip_finding.result c.skip_finding.ensures.found
