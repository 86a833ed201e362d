use Rattle.std.proofs.Common.{sym, subst}
use Rattle.journal_records.specs.Views.{answer_of}
use Rattle.batch_audit.specs.Private.{IsOutcomeFor}
use Rattle.batch_audit.proofs.Served.{on_ok}
use Rattle.batch_audit.proofs.outcomes.outcome_for.Goals as goal

pub returns-in-Cleared-clause-outcome : goal.returns-in-Cleared-clause-outcome
returns-in-Cleared-clause-outcome c =
    on_ok (λ found holds. subst (λ seen. IsOutcomeFor c.args.market.now c.args.budget (answer_of seen) found) (sym c.in-Cleared.is) (holds c.args.budget)) c.cleared_for.result c.cleared_for.ensures.outcome

pub returns-in-Skipped-clause-outcome : goal.returns-in-Skipped-clause-outcome
returns-in-Skipped-clause-outcome c =
    on_ok (λ found holds. subst (λ seen. IsOutcomeFor c.args.market.now c.args.budget (answer_of seen) found) (sym c.in-Skipped.is) holds) c.skipped_for.result c.skipped_for.ensures.outcome
